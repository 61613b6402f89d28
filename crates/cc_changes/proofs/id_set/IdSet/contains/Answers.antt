use Rattle.std.proofs.Common.{ap, subst, ◌∙◌, List, ℕ}
use Rattle.cc_views.specs.NatSets.{NatSet, marked, contains}
use Rattle.cc_views.specs.Tables.{IsPlaceOf, found}
use Rattle.cc_changes.proofs.id_set.IdSet.contains.Goals as goal

pub returns : goal.returns
returns c =
    let ids = c.self.inside.ids.items in
    let place = subst (λ (qs : List ℕ). IsPlaceOf marked qs c.args.id c.place_of.result) c.deref.ensures.value c.place_of.ensures in
    c.is_ok.ensures.value ∙ found marked ids c.self.invariant.rising c.args.id c.place_of.result c.args.id place
    ∙ ap (λ (s : NatSet). contains s c.args.id) c.self.view_is
