use Rattle.cc_node_state.specs.GoodLaws.{good_for_more}
use Rattle.cc_flush.proofs.laws.good_for_more.Goals as goal

pub returns : goal.returns
returns c = good_for_more
