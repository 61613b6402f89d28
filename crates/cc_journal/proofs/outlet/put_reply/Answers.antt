use Rattle.std.proofs.Common.{Option, subst}
use Rattle.cc_messages.specs.declared.answer.Answer.{Answer}
use Rattle.cc_messages.specs.declared.output.Output.TheVariants as output
use Rattle.cc_node.specs.Core.{send_replies}
use Rattle.cc_journal.specs.Outlet.{Puts, kept_reply}
use Rattle.cc_journal.proofs.Puts.{puts_none, puts_one}
use Rattle.cc_journal.proofs.outlet.put_reply.Goals as goal

pub returns-in-Some : goal.returns-in-Some
returns-in-Some g c =
    let s = g.S.Site in
    let old = c.args.site.now in
    let new = c.reply.new.self in
    let asked = c.args.answered.now in
    let put = c.reply.ensures in
    subst (λ (kept : Option Answer). Puts s (send_replies (kept_reply asked kept)) old new) c.in-Some.ensures
    (puts_one s old new (output.Reply asked.session asked.request c.in-Some.answer.now) (g.met.S.Site.only_now old)
    put.honest put.tells put.same put.time put.failures)

pub returns-in_default : goal.returns-in_default
returns-in_default g c =
    let s = g.S.Site in
    let old = c.args.site.now in
    subst (λ (kept : Option Answer). Puts s (send_replies (kept_reply c.args.answered.now kept)) old old) c.in_default.ensures
    (puts_none s old (g.met.S.Site.only_now old))
