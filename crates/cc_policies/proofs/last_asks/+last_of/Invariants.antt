use Rattle.std.proofs.Common.{length}
use Rattle.cc_policies.proofs.last_asks.+last_of.Given as goal

abbrev pub decreases-last_of : goal.decreases-last_of
decreases-last_of l = length l.rows.now
