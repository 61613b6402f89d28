-- Steps behind steps.
--     Leads-append                     they lead on
--     left_in-append                   what is left after both
--     AllByRecursion-append            what holds of each of both
--     try_again, try_ends              an ask that is asked again;  that is the last one
use Rattle.std.proofs.Common.{◌≡◌, ℕ, ◌-◌, min, Bool, List, [], ◌∷◌, ◌++◌, Option, Some, None, refl, sym, ap, subst}
use Rattle.std.specs.List.{AllByRecursion}
use Rattle.cc_messages.specs.declared.command.Command.{Command}
use Rattle.cc_web.specs.declared.key.AskKey.{AskKey}
use Rattle.cc_web.specs.declared.asked.Asked.{Asked}
use Rattle.cc_web.specs.Steps.{Step, Begins, Looks, Pauses, Asks, Waits, Takes, Gives, Leads, left_in}
use Rattle.cc_web.specs.Trials.{IsAgain, IsTrial, IsTry}

pub Leads-append : {S : Type 0} (does : S → Step → S → Type 0) (later earlier : List Step) (a b c : S)
    → Leads does a earlier b → Leads does b later c → Leads does a (later ++ earlier) c
Leads-append does [] earlier a b c first next = subst (λ s. Leads does a earlier s) (sym next) first
Leads-append does (step ∷ later) earlier a b c first next = (next.0, Leads-append does later earlier a b next.0 first next.1, next.2)

pub left_in-append : (start : ℕ) (later earlier : List Step) → left_in start (later ++ earlier) ≡ left_in (left_in start earlier) later
left_in-append start [] earlier = refl
left_in-append start (Begins millis ∷ later) earlier = refl
left_in-append start (Looks millis ∷ later) earlier = ap (min millis) (left_in-append start later earlier)
left_in-append start (Pauses millis ∷ later) earlier = ap (λ (n : ℕ). n - millis) (left_in-append start later earlier)
left_in-append start (Asks key command became ∷ later) earlier = left_in-append start later earlier
left_in-append start (Waits key answer ∷ later) earlier = left_in-append start later earlier
left_in-append start (Takes key ∷ later) earlier = left_in-append start later earlier
left_in-append start (Gives key what ∷ later) earlier = left_in-append start later earlier

pub AllByRecursion-append : {X : Type 0} (P : X → Type 0) (xs ys : List X) → AllByRecursion P xs → AllByRecursion P ys → AllByRecursion P (xs ++ ys)
AllByRecursion-append P [] ys a b = b
AllByRecursion-append P (x ∷ xs) ys a b = (a.0, AllByRecursion-append P xs ys a.1 b)

-- an ask that is asked again;  that is the last one
pub try_again : (is_own : Bool) (key : AskKey) (command : Command) (start : ℕ) (steps : List Step) (became : Option Asked) → became ≡ None
    → IsTry is_own key command start steps became → AllByRecursion (IsAgain key command) steps
try_again is_own key command start steps became e t = subst (λ (r : Option Asked). IsTry is_own key command start steps r) e t

pub try_ends : (is_own : Bool) (key : AskKey) (command : Command) (start : ℕ) (later earlier : List Step) (left : ℕ) (became : Option Asked) (last : Asked)
    → became ≡ Some last → left ≡ left_in start earlier → AllByRecursion (IsAgain key command) earlier
    → IsTry is_own key command left later became → IsTrial is_own key command start (later ++ earlier) last
try_ends is_own key command start later earlier left became last e same again t = record {
  earlier = earlier;
  again = again;
  final = later;
  ended = subst (λ (n : ℕ). IsTry is_own key command n later (Some last)) same (subst (λ (r : Option Asked). IsTry is_own key command left later r) e t);
  joined = refl;
}
