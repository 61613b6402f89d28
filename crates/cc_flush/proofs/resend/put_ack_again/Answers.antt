use Rattle.std.proofs.Common.{◌≡◌, true, [], ◌∷◌, sym, ◌∙◌, subst, arith}
use Rattle.std.specs.Prelude.{nat_lt, if◌then◌else◌}
use Rattle.cc_messages.specs.declared.output.Output.TheVariants as output
use Rattle.cc_journal.specs.Outlet.{Puts}
use Rattle.cc_journal.proofs.Puts.{puts_none, puts_one}
use Rattle.cc_flush.proofs.resend.put_ack_again.Goals as goal

pub returns-then-heard-eq0-clause-puts : goal.returns-then-heard-eq0-clause-puts
returns-then-heard-eq0-clause-puts g c =
    let s = g.S.Site in
    let old = c.args.site.now in
    subst (λ n. Puts s (if nat_lt 0 n then output.Ack c.args.peer n ∷ [] else []) old old)
    (sym c.if-heard-eq0.true ∙ c.heard-heard.ensures) (puts_none s old (g.met.S.Site.only_now old))

pub returns-clause-puts : goal.returns-clause-puts
returns-clause-puts g c =
    let s = g.S.Site in
    let old = c.args.site.now in
    let new = c.ack.new.self in
    let put = c.ack.ensures in
    let heard = c.heard-heard.result in
    let some : nat_lt 0 heard ≡ true = grind (arith, c.if-heard-eq0.false) in
    subst (λ n. Puts s (if nat_lt 0 n then output.Ack c.args.peer n ∷ [] else []) old new) c.heard-heard.ensures
    (subst (λ is. Puts s (if is then output.Ack c.args.peer heard ∷ [] else []) old new) (sym some)
    (puts_one s old new (output.Ack c.args.peer heard) (g.met.S.Site.only_now old) put.honest put.tells put.same put.time put.failures))
