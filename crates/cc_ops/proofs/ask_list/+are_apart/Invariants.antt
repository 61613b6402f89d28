use Rattle.std.proofs.Common.{length}
use Rattle.cc_ops.proofs.ask_list.+are_apart.Given as goal

abbrev pub decreases-are_apart : goal.decreases-are_apart
decreases-are_apart l = length l.asks.now
