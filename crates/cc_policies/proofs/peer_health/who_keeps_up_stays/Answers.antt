use Rattle.cc_policies.proofs.PeerHealthLaws.{keeps_up}
use Rattle.cc_policies.proofs.peer_health.who_keeps_up_stays.Goals as goal

pub returns : goal.returns
returns c = keeps_up
