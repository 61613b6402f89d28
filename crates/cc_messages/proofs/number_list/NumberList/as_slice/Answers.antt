use Rattle.std.proofs.Common.{ap, sym, ◌∙◌}
use Rattle.cc_views.specs.NatSets.{items}
use Rattle.cc_views.specs.NatLists.{items-from_list}
use Rattle.cc_messages.proofs.number_list.NumberList.as_slice.Goals as goal

pub returns-clause-numbers : goal.returns-clause-numbers
returns-clause-numbers c = c.deref.ensures.value ∙ sym (items-from_list c.self.inside.numbers.items c.self.invariant.0) ∙ ap items c.self.view_is
