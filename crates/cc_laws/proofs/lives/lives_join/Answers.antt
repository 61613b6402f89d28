use Rattle.cc_laws.proofs.JoinedLives.{join}
use Rattle.cc_laws.proofs.lives.lives_join.Goals as goal

pub returns : goal.returns
returns c = join c.one_node.ensures.node
