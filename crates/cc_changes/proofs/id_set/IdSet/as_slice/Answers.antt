use Rattle.std.proofs.Common.{◌∙◌}
use Rattle.cc_views.specs.NatLists.{ascending_of_rising}
use Rattle.cc_changes.proofs.Places.{items_are}
use Rattle.cc_changes.proofs.id_set.IdSet.as_slice.Goals as goal

pub returns-clause-ids : goal.returns-clause-ids
returns-clause-ids c = c.deref.ensures.value ∙ items_are c.self.inside.ids.items c.args.self.now c.self.invariant.rising c.self.view_is

pub returns-clause-ascending : goal.returns-clause-ascending
returns-clause-ascending c = rw c.deref.ensures.value (ascending_of_rising c.self.inside.ids.items c.self.invariant.rising)
