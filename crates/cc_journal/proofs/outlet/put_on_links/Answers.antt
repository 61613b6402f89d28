use Rattle.std.proofs.Common.{◌≡◌, ◌∙◌, Some, sym, ap, subst}
use Rattle.std.proofs.lemmas.List.{at_drop_all}
use Rattle.cc_links.specs.Rows.{rows_of}
use Rattle.cc_node.specs.Core.{send_post}
use Rattle.cc_journal.proofs.LinkSends.{row_sends, rows_send, AllStart, all_start, next}
use Rattle.cc_journal.proofs.Puts.{put_none, put_more, put_all}
use Rattle.cc_journal.proofs.outlet.put_on_links.Goals as goal

pub put_on_link-requires-clause-started : goal.put_on_link-requires-clause-started
put_on_link-requires-clause-started g c =
    (subst (AllStart c.args.core.now.posts) (next _ c.loop-row.row-index _ c.loop-row-test.true c.row-item.is) c.loop-row.invariant.start).0

pub loop-row-init : goal.loop-row-init
loop-row-init g c =
    let core = c.args.core.now in
    record {
      start = subst (AllStart core.posts) (sym (c.rows-rows.ensures.rows ∙ ap rows_of c.links.ensures)) (all_start core.posts core.links c.requires);
      put = put_none g.S.Site c.args.site.now _ (g.met.S.Site.only_now c.args.site.now);
    }

pub loop-row-preserved : goal.loop-row-preserved
loop-row-preserved g c =
    let inv = c.loop-row.invariant in
    let more = next c.rows-rows.result.now c.loop-row.row-index c.row-item.result c.loop-row-test.true c.row-item.is in
    record {
      start = (subst (AllStart c.args.core.now.posts) more inv.start).1;
      put = put_more g.S.Site _ _ _ _ _ _ _ inv.put (ap (row_sends c.args.core.now c.args.post.now) more) c.put_on_link.ensures;
    }

pub returns : goal.returns
returns g c =
    let core = c.args.core.now in
    let post = c.args.post.now in
    let all : row_sends core post c.rows-rows.result.now ≡ send_post core (Some post) =
    ap (row_sends core post) (c.rows-rows.ensures.rows ∙ ap rows_of c.links.ensures) ∙ rows_send core post in
    put_all g.S.Site _ _ _ _ _ c.loop-row.invariant.put all (at_drop_all (row_sends core post) _ c.loop-row.row-index c.loop-row-test.false)
