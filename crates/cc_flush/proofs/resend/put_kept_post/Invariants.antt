use Rattle.std.proofs.Common.{◌≤◌}
use Rattle.cc_flush.specs.Resends.{resend_row}
use Rattle.cc_flush.proofs.Resends.{HasPutPieces}
use Rattle.cc_flush.proofs.resend.put_kept_post.Given as goal

abbrev pub invariant-loop-row : goal.invariant-loop-row
invariant-loop-row g l = record {
  put : HasPutPieces g.S.Site (resend_row l.core (l.number, l.post)) l.rows l.fn.site l.site l.row-index l.count;
  few : l.count ≤ l.row-index;
}
