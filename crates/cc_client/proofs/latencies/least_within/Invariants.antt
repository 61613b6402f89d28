use Rattle.std.proofs.Common.{ℕ, ◌<◌, ◌≤◌, ◌-◌}
use Rattle.cc_client.specs.Latencies.{IsWithin, IsShort}
use Rattle.cc_client.proofs.latencies.least_within.Given as goal

abbrev pub invariant-loop-low : goal.invariant-loop-low
invariant-loop-low l = record {
  between : l.low ≤ l.high;
  within : IsWithin l.percent l.all l.high;
  short : (fewer : ℕ) → fewer < l.low → IsShort l.percent l.all fewer;
}

abbrev pub decreases-loop-low : goal.decreases-loop-low
decreases-loop-low l = l.high - l.low
