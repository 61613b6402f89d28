use Rattle.cc_flush.proofs.NodeOrFault.{apart, one_fault, neither}
use Rattle.cc_flush.proofs.laws.node_or_fault.Goals as goal

pub returns-clause-apart : goal.returns-clause-apart
returns-clause-apart c = apart c.one_spelling_of_nodes.ensures.one c.scans_once.ensures.stopped c.scans_once.ensures.either

pub returns-clause-one : goal.returns-clause-one
returns-clause-one c = one_fault c.one_spelling_of_nodes.ensures.one c.scans_once.ensures.stopped c.scans_once.ensures.either

pub returns-clause-neither : goal.returns-clause-neither
returns-clause-neither c = neither c.scans_once.ensures.neither
