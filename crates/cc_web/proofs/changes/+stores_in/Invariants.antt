use Rattle.std.proofs.Common.{length}
use Rattle.cc_web.proofs.changes.+stores_in.Given as goal

abbrev pub decreases-stores_in : goal.decreases-stores_in
decreases-stores_in l = length l.rows.now
