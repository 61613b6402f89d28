use Rattle.std.proofs.Common.{◌≡◌, ◌+◌, ◌*◌, ◌++◌, length, arith}
use Rattle.std.specs.Int.{w64, to_be_bytes}
use Rattle.std.proofs.lemmas.List.{length-append}
use Rattle.cc_views.specs.NatSets.{items}
use Rattle.cc_views.specs.NatLists.{len-items}
use Rattle.cc_wire.specs.Spellings.{text_spelling, flag_spelling, number_set_spelling}
use Rattle.cc_wire.proofs.Lengths.{length-flag, length-numbers}
use Rattle.cc_wire.proofs.spelling_lengths.value_len.Goals as goal

pub returns-clause-len : goal.returns-clause-len
returns-clause-len c =
    let v = c.args.value.now in
    let number = to_be_bytes w64 v.max in
    let set : length (number_set_spelling v.set) ≡ 1 + 4 * length (items v.set) = omega (arith, length-numbers (items v.set)) in
    let flagged : length (flag_spelling v.flag ++ number_set_spelling v.set) ≡ 2 + 4 * length (items v.set) =
    omega (arith, length-append (flag_spelling v.flag) (number_set_spelling v.set), length-flag v.flag, set) in
    let numbered : length (number ++ (flag_spelling v.flag ++ number_set_spelling v.set)) ≡ 10 + 4 * length (items v.set) =
    omega (arith, length-append number (flag_spelling v.flag ++ number_set_spelling v.set), flagged) in
    omega (
      arith,
      c.text_len.ensures.len,
      c.len.ensures.len,
      len-items v.set,
      length-append (text_spelling v.text) (number ++ (flag_spelling v.flag ++ number_set_spelling v.set)),
      numbered,
    )
