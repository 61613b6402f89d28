use Rattle.cc_node.proofs.LineLaws.{outputs_follow_each_other, standing_followed, no_output_twice}
use Rattle.cc_node.proofs.laws.no_output_twice.Goals as goal

pub returns : goal.returns
returns c = record { rising = outputs_follow_each_other; since = standing_followed; apart = no_output_twice }
