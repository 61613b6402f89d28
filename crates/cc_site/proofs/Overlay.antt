-- One place of an overlay: it takes a byte (`put_in`), or stays (`left_out`).
use Rattle.std.proofs.Common.{◌≡◌, ◌⊎◌, inl, inr, ℕ, suc, ◌+◌, ◌<◌, Bool, true, false, List, [], ◌∷◌, ◌++◌, length, take, drop, get_or}
use Rattle.std.proofs.Common.{refl, sym, ◌∙◌, ap, arith, append_assoc}
use Rattle.std.proofs.lemmas.Grind.{common_steps}
use Rattle.std.proofs.lemmas.List.{take-append-drop}
use Rattle.std.proofs.Math.ListN.{set}
use Rattle.cc_site.specs.Image.{overlaid, taken}

none_left : (flags : List Bool) (bytes : List ℕ) → overlaid flags bytes [] ≡ bytes
none_left (true ∷ flags) (x ∷ bytes) = refl
none_left (false ∷ flags) (x ∷ bytes) = refl
none_left flags bytes = refl

none_taken : (flags : List Bool) → taken flags [] ≡ 0
none_taken (true ∷ flags) = refl
none_taken flags = refl

-- the next place takes the next byte
pub put_in : (flags : List Bool) (bytes new : List ℕ) (i used x : ℕ) → i < length bytes → i < length flags → used < length new
    → get_or flags i false ≡ true → get_or new used 0 ≡ x
    → (take (i + 1) (set bytes i x) ++ overlaid (drop (i + 1) flags) (drop (i + 1) (set bytes i x)) (drop (used + 1) new)
    ≡ take i bytes ++ overlaid (drop i flags) (drop i bytes) (drop used new))
    × (suc (taken (drop (i + 1) flags) (drop (used + 1) new)) ≡ taken (drop i flags) (drop used new))
put_in flags bytes new i used x in_bytes in_flags in_new flagged is =
    let f : drop i flags ≡ true ∷ drop (i + 1) flags = grind (arith, common_steps) in
    let b : drop i bytes ≡ get_or bytes i 0 ∷ drop (i + 1) bytes = grind (arith, common_steps) in
    let n : drop used new ≡ x ∷ drop (used + 1) new = grind (arith, common_steps) in
    let front : take (i + 1) (set bytes i x) ≡ take i bytes ++ x ∷ [] = grind (arith, common_steps) in
    let back : drop (i + 1) (set bytes i x) ≡ drop (i + 1) bytes = grind (arith, common_steps) in (
      (λ j. front j ++ overlaid (drop (i + 1) flags) (back j) (drop (used + 1) new))
          ∙ append_assoc (take i bytes) (x ∷ []) (overlaid (drop (i + 1) flags) (drop (i + 1) bytes) (drop (used + 1) new))
          ∙ sym (λ j. take i bytes ++ overlaid (f j) (b j) (n j)),
      sym (λ j. taken (f j) (n j)),
    )

-- the next place is left as it is
pub left_out : (flags : List Bool) (bytes rest : List ℕ) (i : ℕ) → i < length bytes → i < length flags → (get_or flags i false ≡ false) ⊎ (rest ≡ [])
    → (take (i + 1) bytes ++ overlaid (drop (i + 1) flags) (drop (i + 1) bytes) rest ≡ take i bytes ++ overlaid (drop i flags) (drop i bytes) rest)
    × (taken (drop (i + 1) flags) rest ≡ taken (drop i flags) rest)
left_out flags bytes [] i in_bytes in_flags either = (whole (i + 1) ∙ sym (whole i), none_taken (drop (i + 1) flags) ∙ sym (none_taken (drop i flags)))
  where
    whole : (k : ℕ) → take k bytes ++ overlaid (drop k flags) (drop k bytes) [] ≡ bytes
    whole k = ap (λ (l : List ℕ). take k bytes ++ l) (none_left (drop k flags) (drop k bytes)) ∙ take-append-drop k bytes
left_out flags bytes (y ∷ rest) i in_bytes in_flags (inr none) = absurd cc
left_out flags bytes (y ∷ rest) i in_bytes in_flags (inl clean) =
    let f : drop i flags ≡ false ∷ drop (i + 1) flags = grind (arith, common_steps) in
    let b : drop i bytes ≡ get_or bytes i 0 ∷ drop (i + 1) bytes = grind (arith, common_steps) in
    let front : take (i + 1) bytes ≡ take i bytes ++ get_or bytes i 0 ∷ [] = grind (arith, common_steps) in (
      (λ j. front j ++ overlaid (drop (i + 1) flags) (drop (i + 1) bytes) (y ∷ rest))
          ∙ append_assoc (take i bytes) (get_or bytes i 0 ∷ []) (overlaid (drop (i + 1) flags) (drop (i + 1) bytes) (y ∷ rest))
          ∙ sym (λ j. take i bytes ++ overlaid (f j) (b j) (y ∷ rest)),
      sym (λ j. taken (f j) (y ∷ rest)),
    )
