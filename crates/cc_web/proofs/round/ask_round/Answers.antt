use Rattle.std.proofs.Common.{◌≡◌, [], ◌∷◌, Option, Some, None, refl, sym, subst, ◌∙◌}
use Rattle.cc_web.specs.declared.key.AskKey.{AskKey}
use Rattle.cc_web.specs.declared.own_sessions.Fate.{Fate}
use Rattle.cc_web.specs.Steps.{Takes, Gives}
use Rattle.cc_web.specs.Rounds.{round_of}
use Rattle.cc_web.proofs.RoundLemmas.{round_leads, left_in-round}
use Rattle.cc_web.proofs.round.ask_round.Goals as goal

pub returns-in-Some-clause-steps : goal.returns-in-Some-clause-steps
returns-in-Some-clause-steps g c =
    let does = g.A.NodeAccess.does in
    let key = c.in-Some.key in
    let t = c.ask_under-became.ensures.steps in
    let took = subst (λ (k : Option AskKey). does c.args.asking.now (Takes k) c.take.new.self) c.in-Some.is c.take.ensures in
    let gave = subst (λ (f : Fate). does c.ask_under-became.new.asking (Gives key f) c.give_back.new.self) c.fate_of.ensures c.give_back.ensures in (
      round_of key t.0 c.ask_under-became.result,
      round_leads does key t.0 c.ask_under-became.result c.args.asking.now c.take.new.self c.ask_under-became.new.asking c.give_back.new.self took t.1 gave,
      record { key = key; trial = t.0; tried = t.2; is_round = refl },
      t.3 ∙ sym (left_in-round c.args.left_ms.now key t.0 c.ask_under-became.result),
    )

pub returns-in-None-clause-steps : goal.returns-in-None-clause-steps
returns-in-None-clause-steps g c =
    let does = g.A.NodeAccess.does in (
      Takes None ∷ [],
      (c.args.asking.now, refl, subst (λ (k : Option AskKey). does c.args.asking.now (Takes k) c.take.new.self) c.in-None.is c.take.ensures),
      refl,
      refl,
    )
