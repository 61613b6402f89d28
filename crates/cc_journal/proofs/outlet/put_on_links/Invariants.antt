use Rattle.std.proofs.Common.{drop}
use Rattle.cc_journal.proofs.LinkSends.{row_sends, AllStart}
use Rattle.cc_journal.proofs.Puts.{HasPut}
use Rattle.cc_journal.proofs.outlet.put_on_links.Given as goal

abbrev pub invariant-loop-row : goal.invariant-loop-row
invariant-loop-row g l = record {
  start : AllStart l.core.posts (drop l.row-index l.rows);
  put : HasPut g.S.Site l.fn.site l.site (row_sends l.core l.post l.rows) (row_sends l.core l.post (drop l.row-index l.rows));
}
