use Rattle.std.proofs.Common.{◌≡◌, false}
use Rattle.cc_bench.proofs.engine_bench.rounds.Given as goal

abbrev pub invariant-loop : goal.invariant-loop
invariant-loop g l = record {
  owes : l.engine.owes ≡ false;
  live : l.live ≡ l.engine.twin.core;
}
