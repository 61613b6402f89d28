use Rattle.cc_policies.proofs.OperatorOutcomeLaws.{objection_told_whole}
use Rattle.cc_policies.proofs.operator_outcome.objections_are_told.Goals as goal

pub returns : goal.returns
returns c = objection_told_whole
