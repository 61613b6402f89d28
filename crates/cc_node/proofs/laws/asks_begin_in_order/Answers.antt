use Rattle.cc_node.proofs.OrderLaws.{begin_in_order}
use Rattle.cc_node.proofs.ShareLaws.{one_by_one}
use Rattle.cc_node.proofs.laws.asks_begin_in_order.Goals as goal

pub returns-clause-kinds : goal.returns-clause-kinds
returns-clause-kinds c = begin_in_order

pub returns-clause-one_by_one : goal.returns-clause-one_by_one
returns-clause-one_by_one c = one_by_one
