use Rattle.cc_policies.proofs.ClientLaws.{fence_first}
use Rattle.cc_policies.proofs.client.a_reading_comes_first.Goals as goal

pub returns : goal.returns
returns c = fence_first
