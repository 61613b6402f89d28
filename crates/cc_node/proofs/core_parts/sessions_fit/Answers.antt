use Rattle.cc_node.proofs.RestoredRows.{sessions_pass}
use Rattle.cc_node.proofs.core_parts.sessions_fit.Goals as goal

pub returns-clause-fit : goal.returns-clause-fit
returns-clause-fit c = rw (c.requests_fit.ensures, c.rows.ensures.rows) (sessions_pass _)
