use Rattle.std.proofs.Common.{◌-◌, ◌*◌, ◌≤◌}
use Rattle.std.specs.FinMap as table
use Rattle.cc_flush.specs.Resends.{resend_post}
use Rattle.cc_flush.proofs.Resends.{HasPutPieces}
use Rattle.cc_flush.proofs.resend.put_kept_posts.Given as goal

abbrev pub invariant-loop-number : goal.invariant-loop-number
invariant-loop-number g l = record {
  put : HasPutPieces g.S.Site (resend_post l.node.core) (table.entries l.node.outbox.posts) l.fn.site l.site (l.number - l.dropped) l.count;
  few : l.count ≤ 256 * (l.number - l.dropped);
  from : l.dropped ≤ l.number;
}
