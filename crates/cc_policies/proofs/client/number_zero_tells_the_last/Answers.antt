use Rattle.cc_policies.proofs.LearnedLaws.{zero_told}
use Rattle.cc_policies.proofs.client.number_zero_tells_the_last.Goals as goal

pub returns : goal.returns
returns c = zero_told
