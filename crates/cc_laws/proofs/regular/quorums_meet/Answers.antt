use Rattle.cc_laws.proofs.Quorums.{rounds_meet}
use Rattle.cc_laws.proofs.regular.quorums_meet.Goals as goal

pub returns : goal.returns
returns c = rounds_meet
