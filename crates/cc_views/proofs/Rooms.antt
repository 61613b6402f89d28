-- Rooms that are filled, and one number more: at the end of what is used, or at a place in it.
use Rattle.std.proofs.Common.{◌≡◌, ℕ, ◌+◌, ◌-◌, ◌<◌, ◌≤◌, List, [], ◌∷◌, ◌++◌, length, take, drop, set, refl, sym, ap, ◌∙◌, arith, append_assoc, length-take-le}
use Rattle.std.specs.List.{insert, copy_within}
use Rattle.std.proofs.Math.ListN.{replicate}
use Rattle.std.proofs.Math.Seq.{take-set-lt}
use Rattle.std.proofs.lemmas.List.{length-set, length-drop, set-append_left, take-take, take_more_set, drop-take, drop-set-lt, drop_at, length-append}
use Rattle.std.proofs.lemmas.List.{drop-replicate, length-replicate, drop-drop}
use Rattle.std.proofs.lemmas.List.Edits.{length-paste, take-paste, drop-paste}
use Rattle.cc_views.specs.Room.{IsRoom}

-- some cells, and what is left of zeros
pub room_of_front : (size : ℕ) (front rest : List ℕ) → length front ≤ size → rest ≡ drop (length front) (replicate size 0)
    → IsRoom size (front ++ rest) (length front)
room_of_front size front rest le is =
    let zeros : rest ≡ replicate (size - length front) 0 = is ∙ drop-replicate (length front) size 0 in
    record {
      within = le;
      whole = omega (arith, length-append front rest, ap length zeros, length-replicate {A = ℕ} (size - length front) 0);
      rest = drop_at front rest (length front) refl ∙ zeros;
    }

one_less : (m n : ℕ) → m - n - 1 ≡ m - (n + 1)
one_less m n = omega arith

rest_more : (size : ℕ) (cells : List ℕ) (len : ℕ) → IsRoom size cells len → drop (len + 1) cells ≡ replicate (size - (len + 1)) 0
rest_more size cells len h =
    sym (drop-drop 1 len cells) ∙ ap (drop 1) h.rest ∙ drop-replicate 1 (size - len) 0 ∙ ap (λ (n : ℕ). replicate n 0) (one_less size len)

-- one more cell is used
pub room_more : (size : ℕ) (cells : List ℕ) (len x : ℕ) → len < size → IsRoom size cells len → IsRoom size (set cells len x) (len + 1)
room_more size cells len x lt h = record {
  within = omega arith;
  whole = length-set cells len x ∙ h.whole;
  rest = drop-set-lt (len + 1) cells len x (omega arith) ∙ rest_more size cells len h;
}

-- the used cells from `at` on moved one place further, and a number written at that place
abbrev pub with_gap_filled : List ℕ → ℕ → ℕ → ℕ → List ℕ
with_gap_filled cells len at x = set (copy_within cells at len (at + 1)) at x

module _ (cells : List ℕ) (len at x : ℕ) (le : at ≤ len) (lt : len < length cells) where
  count : at + 1 + (len - at) ≡ len + 1
  count = omega arith

  rest_is_long : len - at ≤ length (drop at cells)
  rest_is_long = omega (arith, length-drop at cells)

  front_moved : take (len + 1) (copy_within cells at len (at + 1)) ≡ take (at + 1) cells ++ take (len - at) (drop at cells)
  front_moved =
      ap (λ (n : ℕ). take n (copy_within cells at len (at + 1))) (sym count)
      ∙ take-paste cells (at + 1) (drop at cells) (len - at) (omega arith) rest_is_long

  up_to_gap : set (take (at + 1) cells) at x ≡ take at cells ++ x ∷ []
  up_to_gap = sym (take-set-lt (at + 1) cells at x (omega arith)) ∙ take_more_set cells at x (omega arith)

  after_gap : drop at (take len cells) ≡ take (len - at) (drop at cells)
  after_gap = ap (λ (n : ℕ). drop at (take n cells)) (sym whole) ∙ drop-take at (len - at) cells
    where
      whole : at + (len - at) ≡ len
      whole = omega arith

  -- the front is the old one with the number inserted
  pub take-with_gap_filled : take (len + 1) (with_gap_filled cells len at x) ≡ insert (take len cells) at x
  take-with_gap_filled =
      let rest = take (len - at) (drop at cells) in
      take-set-lt (len + 1) (copy_within cells at len (at + 1)) at x (omega arith)
      ∙ ap (λ (t : List ℕ). set t at x) front_moved
      ∙ set-append_left (take (at + 1) cells) rest at x (omega (arith, length-take-le (at + 1) cells (omega arith)))
      ∙ ap (λ (t : List ℕ). t ++ rest) up_to_gap
      ∙ append_assoc (take at cells) (x ∷ []) rest
      ∙ ap (λ (t : List ℕ). take at cells ++ x ∷ t) (sym after_gap)
      ∙ ap (λ (t : List ℕ). t ++ x ∷ drop at (take len cells)) (sym (take-take at len cells le))

  length-moved : length (copy_within cells at len (at + 1)) ≡ length cells
  length-moved = length-paste cells (at + 1) (drop at cells) (len - at) (omega arith) rest_is_long

  drop-moved : drop (len + 1) (copy_within cells at len (at + 1)) ≡ drop (len + 1) cells
  drop-moved =
      ap (λ (n : ℕ). drop n (copy_within cells at len (at + 1))) (sym count)
      ∙ drop-paste cells (at + 1) (drop at cells) (len - at) (omega arith) rest_is_long
      ∙ ap (λ (n : ℕ). drop n cells) count

-- and one more cell is used
pub room_inserted : (size : ℕ) (cells : List ℕ) (len at x : ℕ) → at ≤ len → len < size → IsRoom size cells len
    → IsRoom size (with_gap_filled cells len at x) (len + 1)
room_inserted size cells len at x le lt h =
    let in_cells : len < length cells = omega (arith, h.whole) in
    record {
      within = omega arith;
      whole = length-set (copy_within cells at len (at + 1)) at x ∙ length-moved cells len at x le in_cells ∙ h.whole;
      rest = drop-set-lt (len + 1) (copy_within cells at len (at + 1)) at x (omega arith) ∙ drop-moved cells len at x le in_cells ∙ rest_more size cells len h;
    }
