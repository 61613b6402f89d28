use Rattle.cc_laws.proofs.CollectReadings.{max_within, flag_within, members_within, max_done, flag_done, member_done}
use Rattle.cc_laws.proofs.double_collects.readings_of_double_collects.Goals as goal

pub returns : goal.returns
returns g = record {
  max_within = λ c d moves begins run. max_within c d moves begins run;
  flag_within = λ c d moves begins run. flag_within c d moves begins run;
  members_within = λ c d moves begins run. members_within c d moves begins run;
  max = λ c d moves begins run meet. max_done c d moves begins run meet;
  flag = λ c d moves begins run meet. flag_done c d moves begins run meet;
  member = λ c d moves begins run meet. member_done c d moves begins run meet;
}
