use Rattle.std.proofs.Common.{[], map, sym, subst}
use Rattle.std.proofs.lemmas.List.{get_or-map, length-map}
use Rattle.cc_command_line.specs.Words.{NoNumber}
use Rattle.cc_command_line.proofs.Parts.{no_numbers}
use Rattle.cc_command_line.proofs.lists.numbers.Goals as goal

pub returns-in_default : goal.returns-in_default
returns-in_default c =
    let i = c.loop-word.word-index in
    let words = c.args.words.now in
    let never = c.in_default.ensures in
    no_numbers (map (λ w. w.now) words) i (rw length-map c.loop-word-test.true)
    (subst (NoNumber 32) (sym (get_or-map (λ w. w.now) words i _ [] c.loop-word-test.true)) never)
