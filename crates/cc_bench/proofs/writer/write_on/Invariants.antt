use Rattle.std.proofs.Common.{◌≡◌, false}
use Rattle.cc_bench.proofs.writer.write_on.Given as goal

abbrev pub invariant-loop : goal.invariant-loop
invariant-loop g l = l.engine.owes ≡ false
