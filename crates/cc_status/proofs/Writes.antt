-- One write after another.
use Rattle.std.specs.List.{flat_map}
use Rattle.std.proofs.lemmas.List.Concat.{flat_map-cons, flat_map-append}
use Rattle.std.proofs.Common.{◌≡◌, ℕ, zero, suc, ◌+◌, ◌<◌, List, [], ◌∷◌, ◌++◌, length, take, drop, get_or, Result, Ok, Err, refl, sym, ap, subst}
use Rattle.std.proofs.Common.{◌∙◌, append_assoc, arith}
use Rattle.std.specs.Global.{Vec}
use Rattle.std.specs.declared.alloc.AllocError.{AllocError}
use Rattle.std.proofs.lemmas.List.{take_at, take-take, take_more, length-append, append-nil}
use Rattle.cc_status.specs.Writers.{Writes}

pub writes_then : (old mid new : Vec ℕ) (a b : List ℕ) (r : Result (Unit {0}) AllocError) → Writes old mid a (Ok tt) → Writes mid new b r
    → Writes old new (a ++ b) r
writes_then old mid new a b (Ok u) first second = record {
  ok = second.ok ∙ ap (λ (t : List ℕ). t ++ b) first.ok ∙ append_assoc old.items a b;
  err = tt;
  room = λ h. second.room (omega (arith, h, first.grows, old.ok, mid.ok, ap length first.ok, length-append old.items a, length-append a b));
  grows = omega (arith, first.grows, second.grows);
}
writes_then old mid new a b (Err e) first second = record {
  ok = tt;
  err =
      let front : take (length old.items) (take (length mid.items) new.items) ≡ take (length old.items) new.items =
      take-take (length old.items) (length mid.items) new.items (omega (arith, ap length first.ok, length-append old.items a)) in
      sym front ∙ ap (take (length old.items)) (second.err ∙ first.ok) ∙ take_at old.items a (length old.items) refl;
  room = λ h. second.room (omega (arith, h, first.grows, old.ok, mid.ok, ap length first.ok, length-append old.items a, length-append a b));
  grows = omega (arith, first.grows, second.grows);
}

pub writes_stop : (old mid : Vec ℕ) (a b : List ℕ) (e f : AllocError) → Writes old mid a (Err e) → Writes old mid (a ++ b) (Err f)
writes_stop old mid a b e f w = record {
  ok = tt;
  err = w.err;
  room = λ h. w.room (omega (arith, h, length-append a b));
  grows = w.grows;
}

-- ---- a list, one element after the other, as a loop does

module _ {X : Type 0} (f : X → List ℕ) where
  split_at : (xs : List X) (i : ℕ) (x : X) → i < length xs → x ≡ get_or xs i x → flat_map f xs ≡ flat_map f (take i xs) ++ (f x ++ flat_map f (drop (suc i) xs))
  split_at [] i x lt is = absurd (omega arith)
  split_at (y ∷ xs) zero x lt is = flat_map-cons f y xs ∙ ap (λ (z : X). f z ++ flat_map f xs) (sym is)
  split_at (y ∷ xs) (suc i) x lt is =
      flat_map-cons f y xs ∙ ap (λ (t : List ℕ). f y ++ t) (split_at xs i x (omega arith) is)
      ∙ sym (append_assoc (f y) (flat_map f (take i xs)) (f x ++ flat_map f (drop (suc i) xs)))
      ∙ ap (λ (t : List ℕ). t ++ (f x ++ flat_map f (drop (suc i) xs))) (sym (flat_map-cons f y (take i xs)))

  pub each_stops : (old mid new : Vec ℕ) (xs : List X) (i : ℕ) (x : X) (e g : AllocError) → i < length xs → x ≡ get_or xs i x
      → Writes old mid (flat_map f (take i xs)) (Ok tt) → Writes mid new (f x) (Err e) → Writes old new (flat_map f xs) (Err g)
  each_stops old mid new xs i x e g lt is first second =
      subst (λ (t : List ℕ). Writes old new t (Err g)) (sym (split_at xs i x lt is))
      (writes_then old mid new (flat_map f (take i xs)) (f x ++ flat_map f (drop (suc i) xs)) (Err g) first
      (writes_stop mid new (f x) (flat_map f (drop (suc i) xs)) e g second))

  pub each_more : (old mid new : Vec ℕ) (xs : List X) (i : ℕ) (x : X) → i < length xs → x ≡ get_or xs i x
      → Writes old mid (flat_map f (take i xs)) (Ok tt) → Writes mid new (f x) (Ok tt) → Writes old new (flat_map f (take (i + 1) xs)) (Ok tt)
  each_more old mid new xs i x lt is first second =
      let more : take (i + 1) xs ≡ take i xs ++ x ∷ [] = take_more xs i x lt ∙ ap (λ (y : X). take i xs ++ y ∷ []) (sym is) in
      let text : flat_map f (take (i + 1) xs) ≡ flat_map f (take i xs) ++ f x =
      ap (flat_map f) more ∙ flat_map-append f (take i xs) (x ∷ []) ∙ ap (λ (t : List ℕ). flat_map f (take i xs) ++ t) (flat_map-cons f x []
      ∙ append-nil (f x)) in
      subst (λ (t : List ℕ). Writes old new t (Ok tt)) (sym text) (writes_then old mid new (flat_map f (take i xs)) (f x) (Ok tt) first second)
