use Rattle.std.proofs.Common.{List, subst, arith}
use Rattle.cc_messages.specs.declared.output.Output.{Output}
use Rattle.cc_messages.specs.declared.output.Output.TheVariants as output
use Rattle.cc_journal.specs.Outlet.{Puts}
use Rattle.cc_journal.proofs.Puts.{puts_none, puts_one}
use Rattle.cc_flush.proofs.resend.put_on_waiting_link.Goals as goal

pub returns-then-has_left-clause-puts : goal.returns-then-has_left-clause-puts
returns-then-has_left-clause-puts g c =
    let s = g.S.Site in
    let old = c.args.site.now in
    subst (λ (l : List Output). Puts s l old old) (grind arith)
    (puts_none s old (g.met.S.Site.only_now old))

pub returns-in_default-clause-puts : goal.returns-in_default-clause-puts
returns-in_default-clause-puts g c =
    let s = g.S.Site in
    let old = c.args.site.now in
    subst (λ (l : List Output). Puts s l old old) (grind arith)
    (puts_none s old (g.met.S.Site.only_now old))

pub returns-then-wire-row-clause-puts : goal.returns-then-wire-row-clause-puts
returns-then-wire-row-clause-puts g c =
    let s = g.S.Site in
    let old = c.args.site.now in
    subst (λ (l : List Output). Puts s l old old) (grind arith)
    (puts_none s old (g.met.S.Site.only_now old))

pub returns-clause-puts : goal.returns-clause-puts
returns-clause-puts g c =
    let s = g.S.Site in
    let old = c.args.site.now in
    let new = c.send.new.self in
    let put = c.send.ensures in
    subst (λ (l : List Output). Puts s l old new) (grind arith)
    (puts_one s old new (output.Send c.args.row.now.peer c.in-Some.wire c.args.post.now) (g.met.S.Site.only_now old)
    put.honest put.tells put.same put.time put.failures)
