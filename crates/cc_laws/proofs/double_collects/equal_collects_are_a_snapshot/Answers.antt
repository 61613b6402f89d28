use Rattle.cc_laws.proofs.DoubleCollectSteps.{no_both, none_later, within, sees, in_turn, comparable}
use Rattle.cc_laws.proofs.Linearization.{linearized}
use Rattle.cc_laws.proofs.double_collects.equal_collects_are_a_snapshot.Goals as goal

pub returns : goal.returns
returns g = record {
  comparable = λ c d moves begins run meet. comparable c d moves begins run meet;
  in_turn = λ c d moves begins run meet. in_turn c d moves begins run meet;
  stored = λ c d moves begins run meet. sees c d moves begins run meet;
  nothing_later = λ c d moves begins run meet a q n lacks shown. no_both a.moment.now q n (none_later c d moves begins run a q n shown) lacks;
  linearizable = λ c d moves begins run meet. linearized c d moves begins run meet;
}
