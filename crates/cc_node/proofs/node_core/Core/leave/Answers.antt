use Rattle.cc_node.proofs.Effects.{next_leave, next_keeps, leave_room}
use Rattle.cc_node.proofs.node_core.Core.leave.Goals as goal

pub leave-requires : goal.leave-requires
leave-requires c = leave_room c.self.view_is c.requires c.self.invariant

pub invariant_of-self : goal.invariant_of-self
invariant_of-self c = next_keeps _ c.self.view_is (next_leave c.self.view_is c.leave.ensures) c.requires c.self.invariant

pub returns : goal.returns
returns c = next_leave c.self.view_is c.leave.ensures
