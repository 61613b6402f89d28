use Rattle.std.proofs.Common.{◌≡◌, ℕ, [], ◌++◌, refl, sym, ap, ◌∙◌, arith}
use Rattle.cc_web.specs.Steps.{left_in}
use Rattle.cc_web.specs.Trials.{IsAgain}
use Rattle.cc_web.proofs.StepLemmas.{Leads-append, left_in-append, AllByRecursion-append, try_again, try_ends}
use Rattle.cc_web.proofs.trial.ask_under.Goals as goal

pub loop-became-init : goal.loop-became-init
loop-became-init g c = ([], refl, tt, refl, omega arith)

pub loop-became-preserved : goal.loop-became-preserved
loop-became-preserved g c =
    let b = c.loop-became.invariant in
    let t = c.ask_once.ensures.steps in
    let under = try_again c.args.is_own c.args.key c.args.command.now c.loop-became.left_ms t.0 c.ask_once.result c.in-None.is t.2 in (
      t.0 ++ b.0,
      Leads-append g.A.NodeAccess.does t.0 b.0 _ _ _ b.1 t.1,
      AllByRecursion-append (IsAgain c.args.key c.args.command.now) t.0 b.0 under b.2,
      t.3 ∙ ap (λ (n : ℕ). left_in n t.0) b.3 ∙ sym (left_in-append c.args.left_ms.now t.0 b.0),
      omega (arith, c.ask_once.ensures.within, b.4),
    )

pub returns-in-Some-clause-steps : goal.returns-in-Some-clause-steps
returns-in-Some-clause-steps g c =
    let b = c.loop-became.invariant in
    let t = c.ask_once.ensures.steps in (
      t.0 ++ b.0,
      Leads-append g.A.NodeAccess.does t.0 b.0 _ _ _ b.1 t.1,
      try_ends c.args.is_own c.args.key c.args.command.now c.args.left_ms.now t.0 b.0 c.loop-became.left_ms c.ask_once.result c.in-Some.became c.in-Some.is b.3 b.2 t.2,
      t.3 ∙ ap (λ (n : ℕ). left_in n t.0) b.3 ∙ sym (left_in-append c.args.left_ms.now t.0 b.0),
    )
