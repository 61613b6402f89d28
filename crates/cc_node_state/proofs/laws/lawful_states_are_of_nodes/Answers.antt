use Rattle.std.proofs.Common.{subst, sym}
use Rattle.cc_node_state.specs.States.{SpellsState}
use Rattle.cc_node_state.proofs.NodeStates.{state_of-node_of}
use Rattle.cc_node_state.proofs.laws.lawful_states_are_of_nodes.Goals as goal

pub returns : goal.returns
returns c = λ layout bytes s is lawful. record { lawful = lawful; state = subst (SpellsState layout bytes) (sym (state_of-node_of s)) is }
