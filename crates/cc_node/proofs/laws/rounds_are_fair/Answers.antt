use Rattle.cc_node.proofs.ShareLaws.{comes_on, stays_there}
use Rattle.cc_node.proofs.laws.rounds_are_fair.Goals as goal

pub returns-clause-comes_on : goal.returns-clause-comes_on
returns-clause-comes_on c = comes_on

pub returns-clause-stays : goal.returns-clause-stays
returns-clause-stays c = stays_there
