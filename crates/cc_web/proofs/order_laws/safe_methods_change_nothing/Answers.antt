use Rattle.cc_web.proofs.OrderLaws.{safe_methods}
use Rattle.cc_web.proofs.order_laws.safe_methods_change_nothing.Goals as goal

pub returns : goal.returns
returns c = safe_methods
