use Rattle.cc_policies.proofs.RouteLaws.{connection_asked, connection_judged, ask_refused, connection_others, connection_closed}
use Rattle.cc_policies.proofs.routes.answers_follow_asks.Goals as goal

pub returns-clause-asked : goal.returns-clause-asked
returns-clause-asked c = connection_asked

pub returns-clause-judged : goal.returns-clause-judged
returns-clause-judged c = connection_judged

pub returns-clause-refused : goal.returns-clause-refused
returns-clause-refused c = ask_refused

pub returns-clause-others : goal.returns-clause-others
returns-clause-others c = connection_others

pub returns-clause-gone : goal.returns-clause-gone
returns-clause-gone c = connection_closed
