use Rattle.std.proofs.Common.{List, subst, arith}
use Rattle.cc_messages.specs.declared.output.Output.{Output}
use Rattle.cc_messages.specs.declared.output.Output.TheVariants as output
use Rattle.cc_journal.specs.Outlet.{Puts}
use Rattle.cc_journal.proofs.Puts.{puts_none, puts_one}
use Rattle.cc_flush.proofs.resend.put_kept_answer.Goals as goal

pub returns-in_default-clause-puts : goal.returns-in_default-clause-puts
returns-in_default-clause-puts g c =
    let s = g.S.Site in
    let old = c.args.site.now in
    subst (λ (l : List Output). Puts s l old old) (grind arith) (puts_none s old (g.met.S.Site.only_now old))

pub returns-in_default-answer-clause-puts : goal.returns-in_default-answer-clause-puts
returns-in_default-answer-clause-puts g c =
    let s = g.S.Site in
    let old = c.args.site.now in
    subst (λ (l : List Output). Puts s l old old) (grind arith) (puts_none s old (g.met.S.Site.only_now old))

pub returns-clause-puts : goal.returns-clause-puts
returns-clause-puts g c =
    let s = g.S.Site in
    let old = c.args.site.now in
    let put = c.reply.ensures in
    subst (λ (l : List Output). Puts s l old c.reply.new.self) (grind arith)
    (puts_one s old c.reply.new.self (output.Reply c.args.session c.in-Some.request c.in-Some-answer.answer.now) (g.met.S.Site.only_now old)
    put.honest put.tells put.same put.time put.failures)
