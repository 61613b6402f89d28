use Rattle.std.proofs.Common.{◌≡◌, ℕ, ◌-◌, Bool, true, false, List, [], ◌∷◌, ◌++◌, None, refl, sym, ap, subst, ◌∙◌, arith}
use Rattle.std.proofs.lemmas.Bool.{false≢true}
use Rattle.std.proofs.lemmas.Grind.{common_steps}
use Rattle.cc_web.specs.Steps.{Step, Pauses, Takes, Leads, left_in}
use Rattle.cc_web.specs.Rounds.{IsRoundOf, begin, again, paused, is_behind}
use Rattle.cc_web.proofs.StepLemmas.{Leads-append, left_in-append}
use Rattle.cc_web.proofs.RoundLemmas.{round_some, round_none}
use Rattle.cc_web.proofs.round.ask_own.Goals as goal

pub loop-became-init : goal.loop-became-init
loop-became-init g c = ([], [], refl, begin, tt, refl)

pub returns-in-None : goal.returns-in-None
returns-in-None g c =
    let does = g.A.NodeAccess.does in
    let b = c.loop-became.invariant in
    let t = c.ask_round.ensures.steps in
    let none = round_none c.args.command.now c.loop-became.left t.0 c.ask_round.result c.in-None.is t.2 in
    let leads = subst (λ (s : List Step). Leads does c.loop-became.asking s c.ask_round.new.asking) none t.1 in
    (Takes None ∷ b.0, Leads-append does (Takes None ∷ []) b.0 _ _ _ b.2 leads, (b.1, b.0, refl, b.3, b.4))

pub returns-then-left-eq0 : goal.returns-then-left-eq0
returns-then-left-eq0 g c =
    let b = c.loop-became.invariant in
    let t = c.ask_round.ensures.steps in
    let became = c.in-Some.became in
    let round = round_some c.args.command.now c.loop-became.left t.0 c.ask_round.result became c.in-Some.is t.2 in
    let here = subst (λ (n : ℕ). IsRoundOf c.args.command.now n t.0 became) b.5 round in
    let left = t.3 ∙ ap (λ (n : ℕ). left_in n t.0) b.5 ∙ sym (left_in-append c.args.timeout_ms t.0 b.0) in
    (t.0 ++ b.0, Leads-append g.A.NodeAccess.does t.0 b.0 _ _ _ b.2 t.1, (b.1, again here b.3, b.4, λ behind. sym left ∙ c.if-left-eq0.true))

pub returns-then-not-is_behind : goal.returns-then-not-is_behind
returns-then-not-is_behind g c =
    let b = c.loop-became.invariant in
    let t = c.ask_round.ensures.steps in
    let became = c.in-Some.became in
    let round = round_some c.args.command.now c.loop-became.left t.0 c.ask_round.result became c.in-Some.is t.2 in
    let here = subst (λ (n : ℕ). IsRoundOf c.args.command.now n t.0 became) b.5 round in
    let other : is_behind became ≡ false = grind (arith, common_steps) in (
      t.0 ++ b.0,
      Leads-append g.A.NodeAccess.does t.0 b.0 _ _ _ b.2 t.1,
      (b.1, again here b.3, b.4, λ behind. absurd (false≢true (sym other ∙ behind))),
    )

pub loop-became-preserved : goal.loop-became-preserved
loop-became-preserved g c =
    let b = c.loop-became.invariant in
    let t = c.ask_round.ensures.steps in
    let became = c.in-Some.became in
    let round = round_some c.args.command.now c.loop-became.left t.0 c.ask_round.result became c.in-Some.is t.2 in
    let here = subst (λ (n : ℕ). IsRoundOf c.args.command.now n t.0 became) b.5 round in
    let left = t.3 ∙ ap (λ (n : ℕ). left_in n t.0) b.5 ∙ sym (left_in-append c.args.timeout_ms t.0 b.0) in
    let behind : is_behind became ≡ true = grind (arith, common_steps) in (
      Pauses c.min-millis.result ∷ (t.0 ++ b.0),
      became ∷ b.1,
      (c.ask_round.new.asking, Leads-append g.A.NodeAccess.does t.0 b.0 _ _ _ b.2 t.1, c.pause.ensures),
      paused c.min-millis.result (again here b.3),
      (behind, b.4),
      ap (λ (n : ℕ). n - c.min-millis.result) left,
    )
