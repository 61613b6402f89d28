use Rattle.std.proofs.Common.{length}
use Rattle.cc_ops.proofs.ask_list.+writes_by.Given as goal

abbrev pub decreases-writes_by : goal.decreases-writes_by
decreases-writes_by l = length l.asks.now
