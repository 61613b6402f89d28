use Rattle.std.proofs.Common.{◌≡◌, ℕ, ◌<◌, take}
use Rattle.cc_client.specs.Latencies.{count_within}
use Rattle.cc_client.proofs.latencies.greatest.Given as goal

abbrev pub invariant-loop-micros : goal.invariant-loop-micros
invariant-loop-micros l = record {
  all : count_within l.greatest (take l.micros-index l.all) ≡ l.micros-index;
  few : (fewer : ℕ) → fewer < l.greatest → count_within fewer (take l.micros-index l.all) < l.micros-index;
}
