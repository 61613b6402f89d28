use Rattle.cc_policies.proofs.RouteLaws.{kept_routes}
use Rattle.cc_policies.proofs.routes.Routes.take.Goals as goal

pub invariant_of-self : goal.invariant_of-self
invariant_of-self c = rw (c.remove_passed.ensures.items, c.remove_passed.ensures.capacity) (kept_routes _ _ _ _ _ _ _ _ c.self.invariant _)
