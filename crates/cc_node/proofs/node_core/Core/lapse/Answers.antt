use Rattle.cc_node.proofs.Effects.{next_lapse, next_keeps}
use Rattle.cc_node.proofs.node_core.Core.lapse.Goals as goal

pub invariant_of-self : goal.invariant_of-self
invariant_of-self c = next_keeps _ c.self.view_is (next_lapse _ _ c.args.node _ c.self.view_is c.lapse.ensures) c.requires c.self.invariant

pub returns : goal.returns
returns c = next_lapse _ _ _ _ c.self.view_is c.lapse.ensures
