use Rattle.cc_web.proofs.OrderLaws.{client_keys}
use Rattle.cc_web.proofs.order_laws.keys_are_the_clients.Goals as goal

pub returns : goal.returns
returns c = client_keys
