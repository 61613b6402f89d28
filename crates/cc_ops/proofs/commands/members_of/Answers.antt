use Rattle.std.proofs.Common.{◌∙◌, ap}
use Rattle.cc_views.specs.NatSets.{from_list}
use Rattle.cc_views.specs.NatLists.{from_list-items}
use Rattle.cc_ops.proofs.commands.members_of.Goals as goal

pub returns : goal.returns
returns c = c.from_ascending.ensures.set ∙ ap from_list c.in_ok-members.ensures.numbers ∙ from_list-items _
