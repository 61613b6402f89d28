use Rattle.std.proofs.Common.{◌≡◌, Bool, [], ◌∷◌, ◌++◌, Option, refl, sym, ap, subst, ◌∙◌}
use Rattle.cc_web.specs.declared.key.AskKey.{AskKey}
use Rattle.cc_web.specs.Conducts.{ConductsAsk}
use Rattle.cc_web.specs.Replies.{reply_of, own_reply}
use Rattle.cc_web.specs.Steps.{Begins}
use Rattle.cc_web.proofs.StepLemmas.{Leads-append}
use Rattle.cc_web.proofs.conduct.ask_for.Goals as goal

pub returns-in-Some : goal.returns-in-Some
returns-in-Some g c =
    let t = c.ask_client-became.ensures in
    let became = c.ask_client-became.result in (
      t.0,
      t.1,
      subst (λ (k : Option AskKey). ConductsAsk k c.args.command.now c.args.timeout_ms t.0 c.of.result) (sym c.in-Some.is)
          (became, t.2, c.of.ensures ∙ ap (λ (b : Bool). reply_of b became) c.stores.ensures),
    )

pub returns-in-None : goal.returns-in-None
returns-in-None g c =
    let t = c.ask_own-became.ensures in
    let became = c.ask_own-became.result in
    let steps = t.0 ++ Begins c.args.timeout_ms ∷ [] in (
      steps,
      Leads-append g.A.NodeAccess.does t.0 (Begins c.args.timeout_ms ∷ []) _ _ _ (c.args.asking.now, refl, c.begin.ensures) t.1,
      subst (λ (k : Option AskKey). ConductsAsk k c.args.command.now c.args.timeout_ms steps c.of_own.result) (sym c.in-None.is)
          (became, record { inner = t.0; timed = refl; owned = t.2 }, c.of_own.ensures ∙ ap (λ (b : Bool). own_reply b became) c.stores-in-None.ensures),
    )
