-- One answer more.
use Rattle.std.proofs.Common.{◌≡◌, ◌+◌, ℕ, List, [], ◌∷◌, ◌++◌, Option, Some, refl, sym, ap, subst, arith}
use Rattle.std.specs.Prelude.{Ok, Err}
use Rattle.cc_messages.specs.declared.event.Event.{Event}
use Rattle.cc_intake.specs.Talks.{Answer, Spoke, places_of, PlacesRise, step, IsAbove}

pub spoke-push : {S : Type 0} (gives : S → Option Event → S → Type 0) (hears : S → Event → Answer → S → Type 0) (answers : Event → Answer → Type 0)
    (s : S) (rest : List Answer) (t : S) (e : Event) (u : S) (a : Answer) (w : S)
    → Spoke gives hears answers s rest t → gives t (Some e) u → answers e a → hears u e a w → Spoke gives hears answers s (rest ++ a ∷ []) w
spoke-push gives hears answers s [] t e u a w spoke gave answered heard = (e, u, w, subst (λ x. gives x (Some e) u) (sym spoke) gave, answered, heard, refl)
spoke-push gives hears answers s (b ∷ rest) t e u a w spoke gave answered heard =
    (spoke.0, spoke.1, spoke.2, spoke.3, spoke.4, spoke.5, spoke-push gives hears answers spoke.2 rest t e u a w spoke.6 gave answered heard)

pub places-push : (rest : List Answer) (a : Answer) → places_of (rest ++ a ∷ []) ≡ step a (places_of rest)
places-push [] (Ok n) = refl
places-push [] (Err r) = refl
places-push (Ok n ∷ rest) (Ok m) = ap (λ k. k + 1) (places-push rest (Ok m))
places-push (Ok n ∷ rest) (Err r) = ap (λ k. k + 1) (places-push rest (Err r))
places-push (Err s ∷ rest) a = places-push rest a

pub rise-push : (count : ℕ) (rest : List Answer) (a : Answer) → PlacesRise count rest → IsAbove a (count + places_of rest) → PlacesRise count (rest ++ a ∷ [])
rise-push count [] (Ok n) rise above = (omega (arith, above), tt)
rise-push count [] (Err r) rise above = tt
rise-push count (Ok n ∷ rest) (Ok m) rise above = (rise.0, rise-push (count + 1) rest (Ok m) rise.1 (omega (arith, above)))
rise-push count (Ok n ∷ rest) (Err r) rise above = (rise.0, rise-push (count + 1) rest (Err r) rise.1 tt)
rise-push count (Err s ∷ rest) a rise above = rise-push count rest a rise above

pub step-add : (a : Answer) (m n : ℕ) → step a (m + n) ≡ m + step a n
step-add (Ok k) m n = omega arith
step-add (Err r) m n = refl
