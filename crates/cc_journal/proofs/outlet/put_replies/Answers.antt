use Rattle.std.proofs.Common.{refl}
use Rattle.std.proofs.lemmas.List.{at_drop_all}
use Rattle.cc_node.specs.Core.{send_replies}
use Rattle.cc_journal.specs.Outlet.{kept_replies}
use Rattle.cc_journal.specs.declared.outlet.Answered.{Answered}
use Rattle.cc_journal.proofs.EventOutputs.{next_replies}
use Rattle.cc_journal.proofs.Puts.{put_none, put_more, put_all}
use Rattle.cc_journal.proofs.outlet.put_replies.Goals as goal

pub loop-answered-init : goal.loop-answered-init
loop-answered-init g c = put_none g.S.Site c.args.site.now _ (g.met.S.Site.only_now c.args.site.now)

pub loop-answered-preserved : goal.loop-answered-preserved
loop-answered-preserved g c =
    let none_yet : Answered = record { session = 0; request = 0 } in
    put_more g.S.Site _ _ _ _ _ _ _ c.loop-answered.invariant
    (next_replies c.args.requests.now c.loop-answered.answered-index none_yet c.args.outbox.now c.loop-answered-test.true) c.put_reply.ensures

pub returns : goal.returns
returns g c = put_all g.S.Site _ _ _ _ _ c.loop-answered.invariant refl
    (at_drop_all (λ l. send_replies (kept_replies l c.args.outbox.now)) c.args.requests.now c.loop-answered.answered-index c.loop-answered-test.false)
