use Rattle.cc_views.specs.NatLists.{ascending_of_rising}
use Rattle.cc_views.proofs.NumberTables.{items_are}
use Rattle.cc_views.proofs.number_set.NumberSet.as_slice.Goals as goal

pub returns-clause-numbers : goal.returns-clause-numbers
returns-clause-numbers c = items_are _ _ _ c.self.invariant c.self.view_is

pub returns-clause-ascending : goal.returns-clause-ascending
returns-clause-ascending c = ascending_of_rising _ c.self.invariant.rising
