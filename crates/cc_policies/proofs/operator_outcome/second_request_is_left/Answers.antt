use Rattle.cc_policies.proofs.OperatorOutcomeLaws.{left_again, retired_again}
use Rattle.cc_policies.proofs.operator_outcome.second_request_is_left.Goals as goal

pub returns-clause-leave : goal.returns-clause-leave
returns-clause-leave c = left_again

pub returns-clause-retire : goal.returns-clause-retire
returns-clause-retire c = retired_again
