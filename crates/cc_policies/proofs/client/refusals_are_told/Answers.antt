use Rattle.cc_policies.proofs.ClientLaws.{told_whole}
use Rattle.cc_policies.proofs.client.refusals_are_told.Goals as goal

pub returns : goal.returns
returns c = told_whole
