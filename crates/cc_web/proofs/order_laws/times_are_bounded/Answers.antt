use Rattle.cc_web.proofs.OrderLaws.{bounded_times}
use Rattle.cc_web.proofs.order_laws.times_are_bounded.Goals as goal

pub returns : goal.returns
returns c = bounded_times
