use Rattle.cc_web.proofs.OwnLaws.{out_taken, taken_once}
use Rattle.cc_web.proofs.own_laws.a_session_has_one_request_at_a_time.Goals as goal

pub returns-clause-taken : goal.returns-clause-taken
returns-clause-taken c = taken_once

pub returns-clause-out : goal.returns-clause-out
returns-clause-out c = out_taken
