use Rattle.std.proofs.Common.{arith}
use Rattle.std.specs.Int.{w64, to_be_bytes}
use Rattle.std.proofs.lemmas.List.{length-append}
use Rattle.cc_wire.specs.Spellings.{value_spelling}
use Rattle.cc_checkpoint.proofs.elements.OwnAtElement.len.Goals as goal

pub returns : goal.returns
returns c =
    let own = c.args.found.now in
    omega (arith, c.value_len.ensures.len, length-append (value_spelling own.mine) (to_be_bytes w64 own.tag))
