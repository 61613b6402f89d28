-- The answers of a round, one after the other.
--     told_more      one more of them
--     told_all       all of them
--     told_count, front_few     how many there are;  a front has no more than it is told to have
use Rattle.std.proofs.Common.{◌≡◌, ℕ, zero, suc, ◌+◌, ◌<◌, ◌≤◌, List, [], ◌∷◌, ◌++◌, length, map, take, get_or, refl, sym, ap, ◌∙◌, arith}
use Rattle.std.proofs.lemmas.List.{take_more, take_all}
use Rattle.cc_views.specs.Rows.{ViewMap}
use Rattle.cc_ops.specs.declared.pending_operation.Asked.{Asked}
use Rattle.cc_ops.specs.declared.pending_operation.Reply.{Reply}
use Rattle.cc_ops.specs.Ops.{told}

both_told : (seen : ViewMap) (xs ys : List Asked) → map (told seen) (xs ++ ys) ≡ map (told seen) xs ++ map (told seen) ys
both_told seen [] ys = refl
both_told seen (x ∷ xs) ys = ap (λ (l : List Reply). told seen x ∷ l) (both_told seen xs ys)

pub told_more : (seen : ViewMap) (a : Asked) (xs : List Asked) (i : ℕ) (x : Asked) → i < length xs → x ≡ get_or xs i x
    → map (told seen) (a ∷ take (i + 1) xs) ≡ map (told seen) (a ∷ take i xs) ++ told seen x ∷ []
told_more seen a xs i x lt is =
    ap (λ (l : List Asked). map (told seen) (a ∷ l)) (take_more xs i x lt ∙ ap (λ (y : Asked). take i xs ++ y ∷ []) (sym is))
    ∙ both_told seen (a ∷ take i xs) (x ∷ [])

pub told_all : (seen : ViewMap) (a : Asked) (xs : List Asked) (i : ℕ) → length xs ≤ i → map (told seen) (a ∷ take i xs) ≡ map (told seen) (a ∷ xs)
told_all seen a xs i past = ap (λ (l : List Asked). map (told seen) (a ∷ l)) (take_all i xs past)

pub front_few : (xs : List Asked) (i : ℕ) → length (take i xs) ≤ i
front_few xs zero = omega arith
front_few [] (suc i) = omega arith
front_few (x ∷ xs) (suc i) = omega (arith, front_few xs i)

pub told_count : (seen : ViewMap) (a : Asked) (xs : List Asked) → length (map (told seen) (a ∷ xs)) ≡ 1 + length xs
told_count seen a [] = refl
told_count seen a (x ∷ xs) = omega (arith, told_count seen x xs)
