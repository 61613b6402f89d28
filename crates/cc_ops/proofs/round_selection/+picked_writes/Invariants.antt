use Rattle.std.proofs.Common.{length}
use Rattle.cc_ops.proofs.round_selection.+picked_writes.Given as goal

abbrev pub decreases-picked_writes : goal.decreases-picked_writes
decreases-picked_writes l = length l.asks.now
