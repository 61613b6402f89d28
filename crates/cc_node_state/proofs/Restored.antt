-- Tables made of rows in order, and what each lawful state lets build.
use Rattle.std.proofs.Common.{◌≡◌, ℕ, ◌<◌, ◌≤◌, Bool, true, false, ◌&&◌, List, [], ◌∷◌, ◌++◌, length, map, None, refl, sym, ap, ◌∙◌, append_assoc, arith}
use Rattle.std.specs.Prelude.{IsFalse, ◌==◌}
use Rattle.std.specs.Ordering.{nat_cmp}
use Rattle.std.specs.Cmp.{nat_cmp_total}
use Rattle.std.specs.FinMap as table
use Rattle.std.specs.FinMap.{FinMap, nat_cmp-IsAntisymmetric}
use Rattle.std.specs.FinMap.Entries.{below_all, find}
use Rattle.std.proofs.lemmas.List.{map_push, length-append, nil_from_length, append-nil}
use Rattle.std.proofs.lemmas.Bool.{ne_eqb, and_from}
use Rattle.cc_views.specs.Entries.{cmp_gt, lt_from_cmp, and_left, and_right}
use Rattle.cc_views.specs.MapLaws.{len_insert}
use Rattle.cc_views.specs.Tables.{IsRising, table_of, len-table_of}

-- what came, and what is left
module _ {X : Type 0} (front before : List X) {all : List X} (parts : front ++ before ≡ all) where
  module _ {x : X} {after : List X} (step : before ≡ x ∷ after) where
    pub moved_on : (front ++ x ∷ []) ++ after ≡ all
    moved_on = append_assoc front (x ∷ []) after ∙ ap (λ (t : List X). front ++ t) (sym step) ∙ parts

    pub one_left : length front < length all
    one_left = omega (arith, ap length parts, ap length step, length-append front before)

  pub all_came : length before ≡ 0 → front ≡ all
  all_came none = sym (append-nil front) ∙ ap (λ (t : List X). front ++ t) (sym (nil_from_length before none)) ∙ parts

module _ {X Row : Type 0} (entry : Row → ℕ × X) where
  below_front : (k : ℕ) (front rest : List Row) → below_all nat_cmp k (map entry (front ++ rest)) ≡ true → below_all nat_cmp k (map entry front) ≡ true
  below_front k [] rest below = refl
  below_front k (r ∷ front) rest below = and_from _ _ (and_left _ _ below) (below_front k front rest (and_right _ _ below))

  rising_front : (front rest : List Row) → IsRising entry (front ++ rest) → IsRising entry front
  rising_front [] rest rising = refl
  rising_front (r ∷ front) rest rising =
      and_from _ _ (below_front (entry r).0 front rest (and_left _ _ rising)) (rising_front front rest (and_right _ _ rising))

  above_front : (k : ℕ) (front : List Row) (row : Row) (rest : List Row) → below_all nat_cmp k (map entry (front ++ row ∷ rest)) ≡ true → k < (entry row).0
  above_front k [] row rest below = lt_from_cmp k (entry row).0 (and_left _ _ below)
  above_front k (r ∷ front) row rest below = above_front k front row rest (and_right _ _ below)

  not_before : (front : List Row) (row : Row) (rest : List Row) → IsRising entry (front ++ row ∷ rest) → find nat_cmp (entry row).0 (map entry front) ≡ None
  not_before [] row rest rising = refl
  not_before (r ∷ front) row rest rising =
      rw (cmp_gt (entry row).0 (entry r).0 (above_front (entry r).0 front row rest (and_left _ _ rising))) (not_before front row rest (and_right _ _ rising))

  -- of these rows the first are in the table, and these are left
  pub record Came (rows front left : List Row) (t : FinMap nat_cmp X) : Type 0 where
    pub parts : front ++ left ≡ rows
    pub table : t ≡ table_of entry front

  module _ {rows front before rest : List Row} {row : Row} {t : FinMap nat_cmp X} (rising : IsRising entry rows) (step : before ≡ row ∷ rest)
      (so_far : Came rows front before t) where
    -- a row behind them
    table_push : table_of entry (front ++ row ∷ []) ≡ table.insert (table_of entry front) (entry row).0 (entry row).1
    table_push =
        let new = not_before front row rest (rw (← so_far.parts, step) at rising) in
        ap (λ (es : List (ℕ × X)). table.from_entries es) (map_push entry front row)
        ∙ table.from_entries_push nat_cmp_total nat_cmp-IsAntisymmetric (map entry front) (entry row).0 (entry row).1 new

    pub row_came : {new : FinMap nat_cmp X} → new ≡ table.insert t (entry row).0 (entry row).1 → Came rows (front ++ row ∷ []) rest new
    row_came now = record {
      parts = moved_on front before so_far.parts step;
      table = now ∙ ap (λ t. table.insert t (entry row).0 (entry row).1) so_far.table ∙ sym table_push;
    }

    -- there is room for it
    pub fewer : (limit : ℕ) → length rows ≤ limit → table.len t < limit
    fewer limit few =
        let all = len-table_of entry front (rising_front front before (rw (← so_far.parts) at rising)) in
        omega (arith, few, one_left front before so_far.parts step, all, ap (λ t. table.len t) so_far.table)

    pub one_more_fits : (limit : ℕ) → length rows ≤ limit → table.len (table.insert t (entry row).0 (entry row).1) ≤ limit
    one_more_fits limit few = omega (arith, fewer limit few, len_insert t (entry row).0 (entry row).1)

  pub all_in : {rows front left : List Row} {t : FinMap nat_cmp X} → Came rows front left t → length left ≡ 0 → t ≡ table_of entry rows
  all_in {front} {left} so_far none = so_far.table ∙ ap (table_of entry) (all_came front left so_far.parts none)

and_false : (a b : Bool) → b ≡ false → (a && b) ≡ false
and_false true b e = e
and_false false b e = refl

pub room_for_session : (there : Bool) (n : ℕ) → n < 256 → IsFalse (there && (n == 256))
room_for_session there n lt = and_false there (n == 256) (ne_eqb n 256 (λ e. omega (arith, lt, e)))
