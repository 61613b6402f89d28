use Rattle.cc_policies.proofs.PeerHealthLaws.{only_absent}
use Rattle.cc_policies.proofs.peer_health.none_lapses_but_absent.Goals as goal

pub returns : goal.returns
returns c = only_absent
