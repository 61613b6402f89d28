use Rattle.cc_node.proofs.Effects.{next_ack, next_keeps}
use Rattle.cc_node.proofs.node_core.Core.acknowledge.Goals as goal

pub invariant_of-self : goal.invariant_of-self
invariant_of-self c = next_keeps _ c.self.view_is (next_ack _ _ c.args.peer c.args.number _ c.self.view_is c.ack.ensures) c.requires c.self.invariant

pub returns : goal.returns
returns c = next_ack _ _ _ _ _ c.self.view_is c.ack.ensures
