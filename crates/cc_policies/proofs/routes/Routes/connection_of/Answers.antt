use Rattle.cc_policies.proofs.RouteLaws.{connection_open}
use Rattle.cc_policies.proofs.routes.Routes.connection_of.Goals as goal

pub returns-clause-open : goal.returns-clause-open
returns-clause-open c = rw (← c.self.view_is, c.connection_in.ensures, c.deref.ensures.value)
    (connection_open c.args.session c.args.request _ _ c.self.invariant.lead)
