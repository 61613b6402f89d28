use Rattle.cc_node.proofs.AbsentLaws.{not_churned, not_asked, next_overruns}
use Rattle.cc_node.proofs.laws.others_stay.Goals as goal

pub returns : goal.returns
returns c = record { echo = not_churned; phase = not_asked; limit = next_overruns }
