use Rattle.std.proofs.Common.{sym, subst}
use Rattle.cc_messages.specs.declared.output.Output.TheVariants as output
use Rattle.cc_node.specs.Core.{send_ack}
use Rattle.cc_journal.specs.Outlet.{Puts}
use Rattle.cc_journal.proofs.Puts.{puts_none, puts_one}
use Rattle.cc_journal.proofs.outlet.put_ack.Goals as goal

pub returns-in-Some : goal.returns-in-Some
returns-in-Some g c =
    let s = g.S.Site in
    let old = c.args.site.now in
    let new = c.ack.new.self in
    let put = c.ack.ensures in
    subst (λ a. Puts s (send_ack a) old new) (sym c.in-Some.is)
    (puts_one s old new (output.Ack c.in-Some.ack.to c.in-Some.ack.number) (g.met.S.Site.only_now old) put.honest put.tells put.same put.time put.failures)

pub returns-in_default : goal.returns-in_default
returns-in_default g c =
    let s = g.S.Site in
    let old = c.args.site.now in
    subst (λ a. Puts s (send_ack a) old old) (sym c.in_default.is) (puts_none s old (g.met.S.Site.only_now old))
