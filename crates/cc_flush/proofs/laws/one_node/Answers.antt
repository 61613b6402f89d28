use Rattle.cc_flush.proofs.OneNode.{one_node, one_place, one_side}
use Rattle.cc_flush.proofs.laws.one_node.Goals as goal

pub returns-clause-node : goal.returns-clause-node
returns-clause-node c = one_node c.one_spelling_of_nodes.ensures.one c.scans_once.ensures.found

pub returns-clause-place : goal.returns-clause-place
returns-clause-place c = one_place c.one_spelling_of_nodes.ensures.one c.scans_once.ensures.found

pub returns-clause-side : goal.returns-clause-side
returns-clause-side c = one_side c.one_spelling_of_nodes.ensures.one c.scans_once.ensures.found
