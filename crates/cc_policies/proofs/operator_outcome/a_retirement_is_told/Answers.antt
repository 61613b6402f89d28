use Rattle.cc_policies.proofs.OperatorOutcomeLaws.{left_told, taken_told, gone_told}
use Rattle.cc_policies.proofs.operator_outcome.a_retirement_is_told.Goals as goal

pub returns-clause-left : goal.returns-clause-left
returns-clause-left c = left_told

pub returns-clause-taken : goal.returns-clause-taken
returns-clause-taken c = taken_told

pub returns-clause-gone : goal.returns-clause-gone
returns-clause-gone c = gone_told
