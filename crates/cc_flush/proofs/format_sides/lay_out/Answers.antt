use Rattle.std.proofs.Common.{◌≡◌, ◌⊎◌, ⊎_elim, inl, inr, ◌∙◌, subst}
use Rattle.std.proofs.lemmas.Result.{err_from_is_err_and, on_ok_weaker, MatchResult-weaker}
use Rattle.cc_site.specs.declared.site.Call.{Call}
use Rattle.cc_site.specs.declared.site.Call.TheVariants.{Write, Sync}
use Rattle.cc_site.specs.Moments.{Rose}
use Rattle.cc_site.specs.ToldFaults.{Looks}
use Rattle.cc_flush.proofs.FormatMoments.{shut_has_none, both_cleared, laid_out}
use Rattle.cc_flush.proofs.format_sides.lay_out.Goals as goal

pub returns-in_err-clear-clause-every_moment : goal.returns-in_err-clear-clause-every_moment
returns-in_err-clear-clause-every_moment g c honest shut =
    let old = c.args.site.now in
    shut_has_none g.S.Site c.args.image.now (g.S.Site.sent old) old c.clear.new.site (c.clear.ensures.every_moment honest shut)

pub returns-in_err-clear-2-clause-every_moment : goal.returns-in_err-clear-2-clause-every_moment
returns-in_err-clear-2-clause-every_moment g c honest shut =
    let s = g.S.Site in
    both_cleared s c.args.image.now c.args.site.now c.clear.new.site c.clear-2.new.site shut (c.in_ok-clear.ensures.value honest)
    (c.clear.ensures.other_side honest) (c.clear.ensures.tells.1)
    (c.clear.ensures.every_moment honest shut) (c.clear-2.ensures.every_moment (c.clear.ensures.honest.0 honest))

pub returns-clause-every_moment : goal.returns-clause-every_moment
returns-clause-every_moment g c honest shut =
    let s = g.S.Site in
    let h = c.clear.ensures.honest.0 honest in
    let h2 = c.clear-2.ensures.honest.0 h in
    laid_out s c.args.image.now c.args.site.now c.clear.new.site c.clear-2.new.site shut (c.in_ok-clear.ensures.value honest)
    (c.clear.ensures.other_side honest) (c.clear.ensures.tells.1)
    (c.clear.ensures.every_moment honest shut) (c.clear-2.ensures.every_moment h)
    c.fill_and_arm.new.site (c.in_ok-clear-2.ensures.value h) (c.clear-2.ensures.other_side h) (c.clear-2.ensures.tells.1)
    (c.fill_and_arm.ensures.every_moment h2)

looks_not : (call : Call) → ((call ≡ Write) ⊎ (call ≡ Sync)) → Looks call → ⊥
looks_not call changes looks = ⊎_elim (λ write. ⊎_elim (λ a. absurd cc) (λ b. absurd cc) looks) (λ sync. ⊎_elim (λ a. absurd cc) (λ b. absurd cc) looks) changes

pub returns-in_err-clear-clause-stops : goal.returns-in_err-clear-clause-stops
returns-in_err-clear-clause-stops g c honest =
    let p = err_from_is_err_and c.from_residual.result c.from_residual.ensures.1 in
    rw (p.1, p.2) (inr (inl (record {
      on = c.in_err-clear.ensures.fault.0;
      other_side = c.clear.ensures.other_side honest;
      same = c.in_err-clear.ensures.looked honest;
    })))

pub returns-in_err-clear-2-clause-stops : goal.returns-in_err-clear-2-clause-stops
returns-in_err-clear-2-clause-stops g c honest =
    let h = c.clear.ensures.honest.0 honest in
    let p = err_from_is_err_and c.from_residual-in_err-clear-2.result c.from_residual-in_err-clear-2.ensures.1 in
    rw (p.1, p.2) (inr (inr (record {
      on = c.in_err-clear-2.ensures.fault.0;
      other_side = c.clear-2.ensures.other_side h ∙ c.in_ok-clear.ensures.value honest;
      same = λ looks. c.in_err-clear-2.ensures.looked h looks ∙ c.clear.ensures.other_side honest;
    })))

pub returns-clause-stops : goal.returns-clause-stops
returns-clause-stops g c honest =
    let s = g.S.Site in
    let h = c.clear.ensures.honest.0 honest in
    let h2 = c.clear-2.ensures.honest.0 h in
    MatchResult-weaker c.fill_and_arm.result c.fill_and_arm.ensures.fault (λ v same. tt) (λ fault told. inr (inr (record {
      on = told.0;
      other_side = c.fill_and_arm.ensures.other_side h2 ∙ c.clear-2.ensures.other_side h ∙ c.in_ok-clear.ensures.value honest;
      same = λ looks. absurd (looks_not fault.call told.1 looks);
    })))

pub fill_and_arm-requires : goal.fill_and_arm-requires
fill_and_arm-requires g c honest = c.in_ok-clear-2.ensures.value (c.clear-2.ensures.honest.1 honest)

pub returns-in_err-clear-2-clause-honest : goal.returns-in_err-clear-2-clause-honest
returns-in_err-clear-2-clause-honest g c =
    (λ h. c.clear-2.ensures.honest.0 (c.clear.ensures.honest.0 h), λ h. c.clear.ensures.honest.1 (c.clear-2.ensures.honest.1 h))

pub returns-in_err-clear-2-clause-tells : goal.returns-in_err-clear-2-clause-tells
returns-in_err-clear-2-clause-tells g c = (
  (λ t. c.clear-2.ensures.tells.0.0 (c.clear.ensures.tells.0.0 t), λ t. c.clear.ensures.tells.0.1 (c.clear-2.ensures.tells.0.1 t)),
  c.clear-2.ensures.tells.1 ∙ c.clear.ensures.tells.1,
)

pub returns-in_err-clear-2-clause-fault : goal.returns-in_err-clear-2-clause-fault
returns-in_err-clear-2-clause-fault g c =
    let s = g.S.Site in
    let p = err_from_is_err_and c.from_residual-in_err-clear-2.result c.from_residual-in_err-clear-2.ensures.1 in
    rw p.1 (subst (λ n. Rose n (s.failures c.clear-2.new.site)) c.in_ok-clear.ensures.fault c.in_err-clear-2.ensures.fault.1)

pub returns-clause-honest : goal.returns-clause-honest
returns-clause-honest g c = (
  λ h. c.fill_and_arm.ensures.honest.0 (c.clear-2.ensures.honest.0 (c.clear.ensures.honest.0 h)),
  λ h. c.clear.ensures.honest.1 (c.clear-2.ensures.honest.1 (c.fill_and_arm.ensures.honest.1 h)),
)

pub returns-clause-tells : goal.returns-clause-tells
returns-clause-tells g c = (
  (
    λ t. c.fill_and_arm.ensures.tells.0.0 (c.clear-2.ensures.tells.0.0 (c.clear.ensures.tells.0.0 t)),
    λ t. c.clear.ensures.tells.0.1 (c.clear-2.ensures.tells.0.1 (c.fill_and_arm.ensures.tells.0.1 t)),
  ),
  c.fill_and_arm.ensures.tells.1 ∙ c.clear-2.ensures.tells.1 ∙ c.clear.ensures.tells.1,
)

pub returns-clause-second : goal.returns-clause-second
returns-clause-second g c honest =
    let h = c.clear.ensures.honest.0 honest in
    let h2 = c.clear-2.ensures.honest.0 h in
    on_ok_weaker c.fill_and_arm.result
    (λ value. c.fill_and_arm.ensures.other_side h2 ∙ c.clear-2.ensures.other_side h ∙ c.in_ok-clear.ensures.value honest)
    (c.fill_and_arm.ensures.value h2)

pub returns-clause-fault : goal.returns-clause-fault
returns-clause-fault g c =
    let s = g.S.Site in
    let same = c.in_ok-clear-2.ensures.fault ∙ c.in_ok-clear.ensures.fault in
    MatchResult-weaker c.fill_and_arm.result c.fill_and_arm.ensures.fault (λ v still. still ∙ same)
    (λ fault told. subst (λ n. Rose n (s.failures c.fill_and_arm.new.site)) same told.2)
