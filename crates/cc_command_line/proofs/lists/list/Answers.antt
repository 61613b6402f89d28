use Rattle.std.proofs.Common.{lit<, ap, map, ◌∙◌}
use Rattle.std.proofs.lemmas.Iterator.Consumers.{map_from_collect}
use Rattle.std.proofs.lemmas.Iterator.Splits.{YieldsList-from_str_split}
use Rattle.cc_command_line.proofs.Parts.{list_of_parts}
use Rattle.cc_command_line.proofs.lists.list.Goals as goal

pub returns : goal.returns
returns c =
    let parts = map_from_collect _ c.collect.ensures.ran (YieldsList-from_str_split 44 c.args.word.now (lit< tt) c.split.ensures.text
    c.split.ensures.has_more c.split.ensures.pattern) in
    list_of_parts (λ v. v.items) c.args.word.now _ c.numbers.result (ap (map (λ w. w.now)) c.deref.ensures.value ∙ (rw c.in_ok-parts.was at parts))
    c.numbers.ensures
