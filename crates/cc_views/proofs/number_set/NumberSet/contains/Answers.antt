use Rattle.std.proofs.Common.{sym, ap, ◌∙◌}
use Rattle.cc_views.specs.NatSets.{NatSet, marked, from_list, contains}
use Rattle.cc_views.specs.NatLists.{rising_of_ascending, as_table, from_list-items}
use Rattle.cc_views.specs.Tables.{found}
use Rattle.cc_views.proofs.number_set.NumberSet.contains.Goals as goal

pub place_of-requires : goal.place_of-requires
place_of-requires c = rising_of_ascending c.as_slice.result.now c.as_slice.ensures.ascending

pub returns : goal.returns
returns c =
    let ns = c.as_slice.result.now in
    let rising = rising_of_ascending ns c.as_slice.ensures.ascending in
    c.is_ok.ensures.value ∙ found marked ns rising c.args.number c.place_of.result c.args.number c.place_of.ensures
    ∙ ap (λ (s : NatSet). contains s c.args.number) (sym (as_table ns) ∙ ap from_list c.as_slice.ensures.numbers ∙ from_list-items c.args.self.now)
