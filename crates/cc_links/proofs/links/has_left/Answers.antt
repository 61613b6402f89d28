use Rattle.std.proofs.Common.{rules, ◌∙◌, sym, ap, ℕ}
use Rattle.std.proofs.lemmas.List.Sorted.{answers_always}
use Rattle.cc_views.specs.NatSets as set
use Rattle.cc_views.specs.NatSets.{NatSet, marked}
use Rattle.cc_views.specs.NatLists.{rising_of_ascending, as_table}
use Rattle.cc_views.specs.Tables.{searched, found}
use Rattle.cc_links.proofs.links.has_left.Goals as goal

pub returns : goal.returns
returns c =
    let ids = c.args.left.now in
    let id = c.number.result in
    let rising = rising_of_ascending ids c.requires in
    let facts = c.binary_search_by_key.ensures in
    let place = searched marked ids rising id _ facts.bound (facts.position (λ id. id) (answers_always _ _ _ (λ f a r g called. search rules))) in
    c.is_ok.ensures.value ∙ found marked ids rising id _ id place
    ∙ ap (λ (s : NatSet). set.contains s id) (sym (as_table ids))
    ∙ ap (λ (k : ℕ). set.contains (set.from_list ids) k) c.number.ensures.number
