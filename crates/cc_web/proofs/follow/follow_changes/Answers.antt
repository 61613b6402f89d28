use Rattle.std.proofs.Common.{◌≡◌, ℕ, ◌-◌, min, List, [], ◌∷◌, ◌++◌, Some, None, Result, Err, true, false, refl, sym, ap, subst, ◌∙◌, arith}
use Rattle.cc_views.specs.Rows.{ViewMap}
use Rattle.cc_web.specs.Changes.{is_news}
use Rattle.cc_messages.specs.declared.command.Command.TheVariants as command
use Rattle.cc_web.specs.declared.asked.Asked.{Asked}
use Rattle.cc_web.specs.declared.reply.Reply.{Reply}
use Rattle.cc_web.specs.Conducts.{seen_of, Follows, changed, unanswered, crowded, unchanged}
use Rattle.cc_web.specs.Replies.{own_reply}
use Rattle.cc_web.specs.Rounds.{Rounds, IsRoundOf, begin, again, looked, paused}
use Rattle.cc_web.specs.Steps.{Step, Looks, Pauses, Takes, Leads, left_in}
use Rattle.cc_web.proofs.StepLemmas.{Leads-append, left_in-append}
use Rattle.cc_web.proofs.RoundLemmas.{round_some, round_none}
use Rattle.cc_web.proofs.ServiceLemmas.{seen_is, not_seen}
use Rattle.cc_web.proofs.follow.follow_changes.Goals as goal

pub turns-init : goal.turns-init
turns-init g c = ([], [], refl, begin, tt, refl)

pub turns-preserved : goal.turns-preserved
turns-preserved g c =
    let b = c.turns.invariant in
    let t = c.ask_round.ensures.steps in
    let became = c.in-Some.became in
    let view = c.in-Ok.view in
    let millis = c.min-millis.result in
    let round = round_some command.Collect c.turns.left t.0 c.ask_round.result became c.in-Some.is t.2 in
    let seen = seen_is became view (sym c.seen_of.ensures ∙ c.in-Ok.is) in
    let known = ap (is_news c.args.known) (sym c.rows.ensures.rows) ∙ sym c.is_news.ensures ∙ c.if-is_news.false in
    let left = t.3 ∙ ap (λ (n : ℕ). left_in n t.0) b.5 ∙ sym (left_in-append c.args.timeout_ms t.0 b.0) in (
      Pauses millis ∷ Looks c.left_ms.result ∷ (t.0 ++ b.0),
      became ∷ b.1,
      (c.left_ms.new.self, (c.ask_round.new.asking, Leads-append g.A.NodeAccess.does t.0 b.0 _ _ _ b.2 t.1, c.left_ms.ensures), c.pause.ensures),
      paused millis (looked c.left_ms.result (again (subst (λ (n : ℕ). IsRoundOf command.Collect n t.0 became) b.5 round) b.3)),
      ((view, seen, known), b.4),
      ap (λ (n : ℕ). n - millis) (c.min-left.ensures ∙ ap (min c.left_ms.result) left),
    )

pub returns-in-None : goal.returns-in-None
returns-in-None g c =
    let does = g.A.NodeAccess.does in
    let b = c.turns.invariant in
    let t = c.ask_round.ensures.steps in
    let none = round_none command.Collect c.turns.left t.0 c.ask_round.result c.in-None.is t.2 in
    let leads = subst (λ (s : List Step). Leads does c.turns.asking s c.ask_round.new.asking) none t.1 in
    (Takes None ∷ b.0, Leads-append does (Takes None ∷ []) b.0 _ _ _ b.2 leads, crowded b.1 b.3 b.4)

pub returns-in-Err : goal.returns-in-Err
returns-in-Err g c =
    let b = c.turns.invariant in
    let t = c.ask_round.ensures.steps in
    let became = c.in-Some.became in
    let round = round_some command.Collect c.turns.left t.0 c.ask_round.result became c.in-Some.is t.2 in
    let is = sym c.seen_of.ensures ∙ c.in-Err.is in
    let same = not_seen became c.in-Err.became is in (
      t.0 ++ b.0,
      Leads-append g.A.NodeAccess.does t.0 b.0 _ _ _ b.2 t.1,
      subst (λ (r : Reply). Follows c.args.known c.args.timeout_ms (t.0 ++ b.0) r)
          (sym (c.of_own.ensures ∙ ap (λ (a : Asked). own_reply false (Some a)) same))
          (unanswered b.1 became (again (subst (λ (n : ℕ). IsRoundOf command.Collect n t.0 became) b.5 round) b.3) b.4
          (is ∙ ap (λ (a : Asked). let r : Result ViewMap Asked = Err a in r) same)),
    )

pub returns-then-is_news : goal.returns-then-is_news
returns-then-is_news g c =
    let b = c.turns.invariant in
    let t = c.ask_round.ensures.steps in
    let became = c.in-Some.became in
    let view = c.in-Ok.view in
    let round = round_some command.Collect c.turns.left t.0 c.ask_round.result became c.in-Some.is t.2 in
    let seen = seen_is became view (sym c.seen_of.ensures ∙ c.in-Ok.is) in
    let news = ap (is_news c.args.known) (sym c.rows.ensures.rows) ∙ sym c.is_news.ensures ∙ c.if-is_news.true in
    let rounds = subst (λ (a : Asked). Rounds command.Collect c.args.timeout_ms (t.0 ++ b.0) (a ∷ b.1)) seen
    (again (subst (λ (n : ℕ). IsRoundOf command.Collect n t.0 became) b.5 round) b.3) in
    (t.0 ++ b.0, Leads-append g.A.NodeAccess.does t.0 b.0 _ _ _ b.2 t.1, changed b.1 view rounds b.4 news)

pub returns : goal.returns
returns g c =
    let b = c.turns.invariant in
    let zero : c.turns.left ≡ 0 = omega (arith, c.turns-test.false) in
    (b.0, b.2, unchanged b.1 b.3 b.4 (sym b.5 ∙ zero))
