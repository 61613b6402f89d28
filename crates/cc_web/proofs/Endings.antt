-- A refused ask ends with its refusal, and is asked again only where that passes.
use Rattle.std.proofs.Common.{◌≡◌, ℕ, ◌&&◌, min, Bool, true, cond, nat_lt, refl, sym, ap, subst, ◌∙◌}
use Rattle.std.proofs.lemmas.Bool.{cond_both, and_parts}
use Rattle.std.specs.Prelude.{⊤}
use Rattle.cc_messages.specs.declared.refusal.Refusal.{Refusal}
use Rattle.cc_messages.specs.declared.refusal.Refusal.TheVariants as refusal
use Rattle.cc_web.specs.Retries.{passes, after_refusal}
use Rattle.cc_web.specs.declared.problem.Problem.{Problem}
use Rattle.cc_web.specs.declared.problem.Problem.TheVariants as problem
use Rattle.cc_web.specs.declared.retry.Next.{Next}
use Rattle.cc_web.specs.declared.retry.Next.TheVariants as next
use Rattle.cc_web.specs.Trials.{next_of, is_repeat}

abbrev EndsSo : Refusal → Next → Type 0
EndsSo why (next.Again millis) = ⊤
EndsSo why next.Wait = ⊤
EndsSo why (next.End p) = p ≡ problem.Refused why

again_ends : (p : Bool) (why : Refusal) (left : ℕ)
    → EndsSo why (cond (p && nat_lt 0 left) (next.Again (min left 20)) (next.End (problem.Refused why)))
again_ends p why left =
    cond_both (p && nat_lt 0 left) (next.Again (min left 20)) (next.End (problem.Refused why)) (EndsSo why) (λ e. tt) (λ e. refl)

wait_ends : (left : ℕ) → EndsSo refusal.Repeat (cond (nat_lt 0 left) next.Wait (next.End (problem.Refused refusal.Repeat)))
wait_ends left = cond_both (nat_lt 0 left) next.Wait (next.End (problem.Refused refusal.Repeat)) (EndsSo refusal.Repeat) (λ e. tt) (λ e. refl)

after_ends : (why : Refusal) (left : ℕ) → EndsSo why (after_refusal why left)
after_ends refusal.Repeat left = wait_ends left
after_ends why left = again_ends (passes why) why left

next_ends : (is_own : Bool) (why : Refusal) (left : ℕ) → EndsSo why (next_of is_own why left)
next_ends is_own why left =
    cond_both (is_own && is_repeat why) (next.End (problem.Refused why)) (after_refusal why left) (EndsSo why) (λ e. refl) (λ e. after_ends why left)

-- it ends with the problem that it was refused
pub ends_refused : (is_own : Bool) (why : Refusal) (left : ℕ) (p : Problem) → next_of is_own why left ≡ next.End p
    → next_of is_own why left ≡ next.End (problem.Refused why)
ends_refused is_own why left p e = e ∙ ap (λ (q : Problem). next.End q) (subst (EndsSo why) e (next_ends is_own why left))

abbrev PassesIf : Refusal → Next → Type 0
PassesIf why (next.Again millis) = passes why ≡ true
PassesIf why next.Wait = ⊤
PassesIf why (next.End p) = ⊤

again_passes : (p : Bool) (why : Refusal) (left : ℕ) → p ≡ passes why
    → PassesIf why (cond (p && nat_lt 0 left) (next.Again (min left 20)) (next.End (problem.Refused why)))
again_passes p why left same =
    cond_both (p && nat_lt 0 left) (next.Again (min left 20)) (next.End (problem.Refused why)) (PassesIf why)
    (λ e. sym same ∙ (and_parts p (nat_lt 0 left) e).0) (λ e. tt)

wait_passes : (left : ℕ) → PassesIf refusal.Repeat (cond (nat_lt 0 left) next.Wait (next.End (problem.Refused refusal.Repeat)))
wait_passes left = cond_both (nat_lt 0 left) next.Wait (next.End (problem.Refused refusal.Repeat)) (PassesIf refusal.Repeat) (λ e. tt) (λ e. tt)

after_passes : (why : Refusal) (left : ℕ) → PassesIf why (after_refusal why left)
after_passes refusal.Repeat left = wait_passes left
after_passes why left = again_passes (passes why) why left refl

next_passes : (is_own : Bool) (why : Refusal) (left : ℕ) → PassesIf why (next_of is_own why left)
next_passes is_own why left =
    cond_both (is_own && is_repeat why) (next.End (problem.Refused why)) (after_refusal why left) (PassesIf why) (λ e. tt) (λ e. after_passes why left)

-- what is asked again passes
pub passes_again : (is_own : Bool) (why : Refusal) (left millis : ℕ) → next_of is_own why left ≡ next.Again millis → passes why ≡ true
passes_again is_own why left millis e = subst (PassesIf why) e (next_passes is_own why left)
