use Rattle.std.proofs.Common.{refl}
use Rattle.cc_node.specs.Openings.{fresh}
use Rattle.cc_node.proofs.FreshLaws.{fresh_lawful}
use Rattle.cc_node.proofs.node.Node.fresh.Goals as goal

pub invariant_of-result : goal.invariant_of-result
unfolding fresh
invariant_of-result c = rw (c.in_ok-core.ensures, c.in-Ok.ensures.empty) (fresh_lawful _ (c.is_good.ensures.0 c.if-not-is_good.false))

pub returns-clause-node : goal.returns-clause-node
unfolding fresh
returns-clause-node c = rw (c.in_ok-core.ensures, c.in-Ok.ensures.empty) refl
