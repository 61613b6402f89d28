use Rattle.cc_laws.proofs.Counted.{counted_is, ended_is, anew_is, counted_along, round_enough}
use Rattle.cc_laws.proofs.rounds.rounds_are_shown.Goals as goal

pub returns : goal.returns
returns g = record { counted = counted_is; ended = ended_is; anew = anew_is; along = counted_along; enough = round_enough }
