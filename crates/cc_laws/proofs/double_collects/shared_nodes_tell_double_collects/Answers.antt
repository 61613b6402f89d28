use Rattle.cc_laws.proofs.CollectReadings.{within_later, in_turn_shared, sees_shared}
use Rattle.cc_laws.proofs.double_collects.shared_nodes_tell_double_collects.Goals as goal

pub returns : goal.returns
returns g = record {
  comparable = λ c d moves begins run. within_later c d moves begins run;
  in_turn = λ c d moves begins run. in_turn_shared c d moves begins run;
  stored = λ c d moves begins run. sees_shared c d moves begins run;
}
