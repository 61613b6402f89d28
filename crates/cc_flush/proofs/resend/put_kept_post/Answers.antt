use Rattle.std.proofs.Common.{ℕ, ◌∙◌, ap, arith}
use Rattle.cc_messages.specs.declared.message.Message.{Message}
use Rattle.cc_links.specs.Rows.{rows_of}
use Rattle.cc_flush.specs.Resends.{resend_row, resend_post}
use Rattle.cc_journal.proofs.LinkSends.{next}
use Rattle.cc_flush.proofs.Resends.{rows_resend, pieces_none, pieces_more, pieces_all}
use Rattle.cc_flush.proofs.resend.put_kept_post.Goals as goal

pub loop-row-init : goal.loop-row-init
loop-row-init g c =
    let site = c.args.site.now in
    record {
      put = pieces_none g.S.Site (resend_row c.args.core.now (c.args.number, c.args.post.now)) c.rows-rows.result.now site (g.met.S.Site.only_now site);
      few = omega arith;
    }

pub loop-row-preserved : goal.loop-row-preserved
loop-row-preserved g c =
    let rows = c.rows-rows.result.now in
    let at = c.loop-row in
    let row = c.row-item.result in
    let done = c.put_on_waiting_link-count in
    record {
      put = pieces_more g.S.Site (resend_row c.args.core.now (c.args.number, c.args.post.now)) rows c.args.site.now at.site done.new.site
          at.row-index at.count done.result row at.invariant.put (next rows at.row-index row c.loop-row-test.true c.row-item.is)
          done.ensures.puts done.ensures.count;
      few = omega (arith, at.invariant.few, done.ensures.one);
    }

pub returns-clause-count : goal.returns-clause-count
returns-clause-count g c =
    let core = c.args.core.now in
    let post : ℕ × Message = (c.args.number, c.args.post.now) in
    let rows = c.rows-rows.result.now in
    (pieces_all g.S.Site (resend_row core post) rows c.args.site.now c.loop-row.site c.loop-row.row-index c.loop-row.count (resend_post core post)
    c.loop-row.invariant.put c.loop-row-test.false (rows_resend core post rows (c.rows-rows.ensures.rows ∙ ap rows_of c.links.ensures))).1

pub returns-clause-puts : goal.returns-clause-puts
returns-clause-puts g c =
    let core = c.args.core.now in
    let post : ℕ × Message = (c.args.number, c.args.post.now) in
    let rows = c.rows-rows.result.now in
    (pieces_all g.S.Site (resend_row core post) rows c.args.site.now c.loop-row.site c.loop-row.row-index c.loop-row.count (resend_post core post)
    c.loop-row.invariant.put c.loop-row-test.false (rows_resend core post rows (c.rows-rows.ensures.rows ∙ ap rows_of c.links.ensures))).0
