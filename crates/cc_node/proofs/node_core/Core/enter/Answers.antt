use Rattle.cc_node.proofs.Effects.{next_enter, next_keeps, enter_room}
use Rattle.cc_node.proofs.node_core.Core.enter.Goals as goal

pub enter-requires : goal.enter-requires
enter-requires c = enter_room c.self.view_is c.requires c.self.invariant

pub invariant_of-self : goal.invariant_of-self
invariant_of-self c = next_keeps _ c.self.view_is (next_enter c.self.view_is c.enter.ensures) c.requires c.self.invariant

pub returns : goal.returns
returns c = next_enter c.self.view_is c.enter.ensures
