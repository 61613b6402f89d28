use Rattle.cc_web.proofs.OrderLaws.{other_pages}
use Rattle.cc_web.proofs.order_laws.other_pages_change_nothing.Goals as goal

pub returns : goal.returns
returns c = other_pages
