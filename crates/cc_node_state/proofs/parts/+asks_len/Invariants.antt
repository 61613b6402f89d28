use Rattle.std.proofs.Common.{length}
use Rattle.cc_node_state.proofs.parts.+asks_len.Given as goal

abbrev pub decreases-asks_len : goal.decreases-asks_len
decreases-asks_len l = length l.asks.now
