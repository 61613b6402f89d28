use Rattle.std.proofs.Common.{arith}
use Rattle.cc_policies.proofs.RouteLaws.{connection_kept}
use Rattle.cc_policies.proofs.routes.Routes.enter.Goals as goal

pub invariant_of-self : goal.invariant_of-self
invariant_of-self c =
    rw (c.push.ensures.items, c.unwrap.ensures)
    (connection_kept _ _ _ _ _ _ _ _ c.self.invariant _ _ (omega (arith, c.if-len-connection_limit.true, c.len.ensures, c.connection_limit.ensures.most))
    c.push.ensures.capacity)
