use Rattle.cc_policies.proofs.RouteLaws.{closed_kept}
use Rattle.cc_policies.proofs.routes.Routes.leave.Goals as goal

pub invariant_of-self : goal.invariant_of-self
invariant_of-self c =
    rw (
      c.remove_connection.ensures.items,
      c.remove_connection.ensures.capacity,
      c.remove_connection-2.ensures.items,
      c.remove_connection-2.ensures.capacity,
      c.remove_routes.ensures.items,
      c.remove_routes.ensures.capacity,
    )
    (closed_kept _ _ _ _ _ _ _ _ c.self.invariant _)
