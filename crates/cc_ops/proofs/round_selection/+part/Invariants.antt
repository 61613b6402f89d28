use Rattle.std.proofs.Common.{length}
use Rattle.cc_ops.proofs.round_selection.+part.Given as goal

abbrev pub decreases-part : goal.decreases-part
decreases-part l = length l.asks.now
