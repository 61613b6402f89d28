use Rattle.cc_node_state.proofs.NodeStates.{one_spelling_of_node}
use Rattle.cc_node_state.proofs.laws.one_spelling_of_nodes.Goals as goal

pub returns-clause-one : goal.returns-clause-one
returns-clause-one c = one_spelling_of_node
