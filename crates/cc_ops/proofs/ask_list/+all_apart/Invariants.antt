use Rattle.std.proofs.Common.{length}
use Rattle.cc_ops.proofs.ask_list.+all_apart.Given as goal

abbrev pub decreases-all_apart : goal.decreases-all_apart
decreases-all_apart l = length l.asks.now
