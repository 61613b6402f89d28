use Rattle.cc_node.proofs.Effects.{next_snapshot, next_keeps}
use Rattle.cc_node.proofs.node_core.Core.snapshot.Goals as goal

pub invariant_of-self : goal.invariant_of-self
invariant_of-self c = next_keeps _ c.self.view_is (next_snapshot c.self.view_is) c.requires c.self.invariant

pub returns : goal.returns
returns c = next_snapshot c.self.view_is
