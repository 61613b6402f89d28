use Rattle.cc_policies.proofs.RouteLaws.{kept_routes}
use Rattle.cc_policies.proofs.routes.Routes.end.Goals as goal

pub invariant_of-self : goal.invariant_of-self
invariant_of-self c = rw (c.remove_routes.ensures.items, c.remove_routes.ensures.capacity) (kept_routes _ _ _ _ _ _ _ _ c.self.invariant _)
