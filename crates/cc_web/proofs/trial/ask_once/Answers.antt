use Rattle.std.proofs.Common.{◌≡◌, ℕ, ◌-◌, min, [], ◌∷◌, refl, sym, ap, subst, ◌∙◌}
use Rattle.cc_web.specs.declared.asked.Asked.{Asked}
use Rattle.cc_web.specs.declared.asked.Asked.TheVariants as asked
use Rattle.cc_web.specs.Steps.{Step, Looks, Pauses, Asks, Waits}
use Rattle.cc_web.specs.Trials.{next_of, IsFinal, answered, late, refused, waited}
use Rattle.cc_web.specs.declared.problem.Problem.TheVariants as problem
use Rattle.cc_web.specs.declared.retry.Next.{Next}
use Rattle.cc_web.specs.declared.retry.Next.TheVariants as next
use Rattle.cc_web.proofs.Endings.{ends_refused, passes_again}
use Rattle.cc_web.proofs.trial.ask_once.Goals as goal

pub returns-in-Answered-clause-steps : goal.returns-in-Answered-clause-steps
returns-in-Answered-clause-steps g c =
    let asks = subst (λ (a : Asked). g.A.NodeAccess.does c.args.asking.now (Asks c.args.key c.args.command.now a) c.ask.new.self) c.in-Answered.is c.ask.ensures in (
      Asks c.args.key c.args.command.now (asked.Answered c.in-Answered.answer) ∷ [],
      (c.args.asking.now, refl, asks),
      answered c.in-Answered.answer,
      refl,
    )

pub returns-in-Late-clause-steps : goal.returns-in-Late-clause-steps
returns-in-Late-clause-steps g c =
    let asks = subst (λ (a : Asked). g.A.NodeAccess.does c.args.asking.now (Asks c.args.key c.args.command.now a) c.ask.new.self) c.in-Late.is c.ask.ensures in (
      Asks c.args.key c.args.command.now asked.Late ∷ [],
      (c.args.asking.now, refl, asks),
      late,
      refl,
    )

pub returns-in-Again-clause-steps : goal.returns-in-Again-clause-steps
returns-in-Again-clause-steps g c =
    let why = c.in-Refused.why in
    let asks = subst (λ (a : Asked). g.A.NodeAccess.does c.args.asking.now (Asks c.args.key c.args.command.now a) c.ask.new.self) c.in-Refused.is c.ask.ensures in
    let passing = passes_again c.args.is_own why c.min-left.result c.in-Again.millis (sym c.next_of.ensures ∙ c.in-Again.is) in (
      Pauses c.in-Again.millis ∷ Looks c.left_ms.result ∷ Asks c.args.key c.args.command.now (asked.Refused why) ∷ [],
      (c.left_ms.new.self, (c.ask.new.self, (c.args.asking.now, refl, asks), c.left_ms.ensures), c.pause.ensures),
      (tt, (tt, ((refl, refl, passing), tt))),
      ap (λ (n : ℕ). n - c.in-Again.millis) c.min-left.ensures,
    )

pub returns-in-Wait-clause-steps : goal.returns-in-Wait-clause-steps
returns-in-Wait-clause-steps g c =
    let why = c.in-Refused.why in
    let look = c.left_ms.result in
    let left = c.args.left_ms.now in
    let asks = subst (λ (a : Asked). g.A.NodeAccess.does c.args.asking.now (Asks c.args.key c.args.command.now a) c.ask.new.self) c.in-Refused.is c.ask.ensures in
    let steps = Waits c.args.key c.wait.result ∷ Looks look ∷ Asks c.args.key c.args.command.now (asked.Refused why) ∷ [] in
    let waits = subst (λ (n : ℕ). next_of c.args.is_own why n ≡ next.Wait) c.min-left.ensures (sym c.next_of.ensures ∙ c.in-Wait.is) in (
      steps,
      (c.left_ms.new.self, (c.ask.new.self, (c.args.asking.now, refl, asks), c.left_ms.ensures), c.wait.ensures),
      subst (λ (a : Asked). IsFinal c.args.is_own c.args.key c.args.command.now left steps a) (sym c.after_wait.ensures) (waited why look c.wait.result waits),
      c.min-left.ensures,
    )

pub returns-in-End-clause-steps : goal.returns-in-End-clause-steps
returns-in-End-clause-steps g c =
    let why = c.in-Refused.why in
    let asks = subst (λ (a : Asked). g.A.NodeAccess.does c.args.asking.now (Asks c.args.key c.args.command.now a) c.ask.new.self) c.in-Refused.is c.ask.ensures in
    let ends = ends_refused c.args.is_own why c.min-left.result c.in-End.field-0 (sym c.next_of.ensures ∙ c.in-End.is) in (
      Looks c.left_ms.result ∷ Asks c.args.key c.args.command.now (asked.Refused why) ∷ [],
      (c.ask.new.self, (c.args.asking.now, refl, asks), c.left_ms.ensures),
      refused why c.left_ms.result (subst (λ (n : ℕ). next_of c.args.is_own why n ≡ next.End (problem.Refused why)) c.min-left.ensures ends),
      c.min-left.ensures,
    )
