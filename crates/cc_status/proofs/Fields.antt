-- Tests of each field of a head.
use Rattle.std.proofs.Common.{Bool, true, false, ◌≡◌, sym, ◌∙◌, ℕ, ◌<◌, List, length, All, map, get_or, subst}
use Rattle.std.proofs.lemmas.List.{get_or-map, length-map}

-- one that fails is enough
pub refuted : {X Y : Type 0} (P : Y → Type 0) (f : X → Y) (xs : List X) (k : ℕ) (d : X)
    → k < length xs → ¬ (P (f (get_or xs k d))) → ¬ (All P (map f xs))
refuted P f xs k d fits fails all = fails (subst P (get_or-map f xs k d (f d) fits)
    (all k (f d) (rw (length-map xs f) fits)))

-- what would make a test that failed pass
pub untrue : (P : Type 0) (b : Bool) → (P → b ≡ true) → b ≡ false → ¬ P
untrue P b passes fails is = let e : false ≡ true = sym fails ∙ passes is in cc
