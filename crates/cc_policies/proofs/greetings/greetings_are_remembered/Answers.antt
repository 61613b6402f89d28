use Rattle.cc_policies.proofs.GreetingLaws.{are_remembered, are_all_remembered}
use Rattle.cc_policies.proofs.greetings.greetings_are_remembered.Goals as goal

pub returns : goal.returns
returns c = record { rows = are_remembered; all = are_all_remembered }
