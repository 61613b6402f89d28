use Rattle.cc_node.proofs.OrderLaws.{taken_within, taken_along, none_waiting_along}
use Rattle.cc_node.proofs.laws.lines_may_grow.Goals as goal

pub returns : goal.returns
returns c = record { event = taken_within; lawful = taken_along; none_waits = none_waiting_along }
