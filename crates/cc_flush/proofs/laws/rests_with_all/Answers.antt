use Rattle.cc_node_state.specs.GoodLaws.{at_rest_is}
use Rattle.cc_flush.proofs.laws.rests_with_all.Goals as goal

pub returns : goal.returns
returns c = at_rest_is
