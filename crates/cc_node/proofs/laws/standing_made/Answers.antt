use Rattle.cc_node.proofs.StandingLaws.{standing_made}
use Rattle.cc_node.proofs.laws.standing_made.Goals as goal

pub returns : goal.returns
returns c = standing_made
