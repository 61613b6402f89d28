-- A write and the way back (`unwritten`).
use Rattle.std.proofs.Common.{◌≡◌, ◌⊎◌, inl, inr, ℕ, ◌+◌, ◌-◌, ◌≤◌, min, List, ◌++◌, length, take, drop, sym, ◌∙◌, ap, arith}
use Rattle.std.proofs.Common.{append_assoc, length-append, length-drop}
use Rattle.std.proofs.lemmas.List.{drop-drop, take-append-drop, take_all, drop_all, take_at, drop_at, length-take-le, append-nil}
use Rattle.cc_site.specs.Sides.{overwritten}

-- what was written over, and what lies behind
middle : (old : List ℕ) (place count n : ℕ) → (count ≡ n) ⊎ ((count ≡ length old - place) × (length old ≤ place + n))
    → take count (drop place old) ++ drop (place + n) old ≡ drop place old
middle old place count n (inl all) = (λ i. take (all i) (drop place old) ++ sym (drop-drop n place old) i) ∙ take-append-drop n (drop place old)
middle old place count n (inr past) =
    (λ i. take_all count (drop place old) (omega (arith, length-drop place old)) i ++ drop_all (place + n) old past.1 i) ∙ append-nil (drop place old)

-- the old bytes where a write was
pub unwritten : (old new kept : List ℕ) (place count : ℕ) → place ≤ length old → count ≡ min (length new) (length old - place)
    → kept ≡ take count (drop place old)
    → take place (overwritten old place new) ++ kept ++ drop (place + length new) (overwritten old place new) ≡ old
unwritten old new kept place count within is kept_is =
    let tail = drop (place + length new) old in
    let long = length-take-le place old within in
    let front : take place (overwritten old place new) ≡ take place old =
    ap (take place) (append_assoc (take place old) new tail) ∙ take_at (take place old) (new ++ tail) place long in
    let back : drop (place + length new) (overwritten old place new) ≡ tail =
    drop_at (take place old ++ new) tail (place + length new) (omega (arith, long, length-append (take place old) new)) in
    (λ i. front i ++ kept_is i ++ back i) ∙ append_assoc (take place old) (take count (drop place old)) tail
    ∙ ap (λ (l : List ℕ). take place old ++ l) (middle old place count (length new) (grind arith)) ∙ take-append-drop place old
