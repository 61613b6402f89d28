use Rattle.std.proofs.Common.{drop}
use Rattle.cc_node.specs.Core.{send_replies}
use Rattle.cc_journal.specs.Outlet.{kept_replies}
use Rattle.cc_journal.proofs.Puts.{HasPut}
use Rattle.cc_journal.proofs.outlet.put_replies.Given as goal

abbrev pub invariant-loop-answered : goal.invariant-loop-answered
invariant-loop-answered g l =
    HasPut g.S.Site l.fn.site l.site (send_replies (kept_replies l.requests l.outbox)) (send_replies (kept_replies (drop l.answered-index l.requests) l.outbox))
