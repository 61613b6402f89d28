-- The list of touched places: each of its flags, and a list of flags that is it (`flags_are`).
use Rattle.std.proofs.Common.{◌≡◌, ℕ, zero, suc, ◌+◌, ◌<◌, Bool, false, List, [], ◌∷◌, length, slice_index_or, refl, ◌∙◌, ap, arith}
use Rattle.cc_site.specs.Image.{touched_list}

pub flags_are : (touched : ℕ → Bool) (p n : ℕ) (flags : List Bool) → length flags ≡ n
    → ((q : ℕ) → q < n → slice_index_or flags q false ≡ touched (p + q)) → flags ≡ touched_list touched p n
flags_are touched p zero [] long each = refl
flags_are touched p zero (f ∷ flags) long each = absurd (omega arith)
flags_are touched p (suc n) [] long each = absurd (omega arith)
flags_are touched p (suc n) (f ∷ flags) long each =
    let first : f ≡ touched p = each 0 (omega arith) ∙ ap touched (omega arith) in
    let rest = flags_are touched (suc p) n flags (omega arith) (λ q below. each (suc q) (omega arith) ∙ ap touched (omega arith)) in
    cc

pub touched_at : (touched : ℕ → Bool) (p n q : ℕ) → q < n → slice_index_or (touched_list touched p n) q false ≡ touched (p + q)
touched_at touched p zero q below = absurd (omega arith)
touched_at touched p (suc n) zero below = ap touched (omega arith)
touched_at touched p (suc n) (suc q) below = touched_at touched (suc p) n q (omega arith) ∙ ap touched (omega arith)
