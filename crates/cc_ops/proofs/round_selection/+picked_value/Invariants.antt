use Rattle.std.proofs.Common.{length}
use Rattle.cc_ops.proofs.round_selection.+picked_value.Given as goal

abbrev pub decreases-picked_value : goal.decreases-picked_value
decreases-picked_value l = length l.asks.now
