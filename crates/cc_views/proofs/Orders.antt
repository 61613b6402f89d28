-- A view is at most another where each of its rows passes the test.
use Rattle.std.proofs.Common.{◌≡◌, ℕ, Bool, true, cond, List, [], ◌∷◌, Option, Some, None, refl, sym, ap, subst, ◌∙◌}
use Rattle.std.specs.Prelude.{IsTrue, ◌↔◌}
use Rattle.std.specs.List.{list_all}
use Rattle.std.specs.declared.cmp.Ordering.TheVariants.{Less, Equal, Greater}
use Rattle.std.specs.Ordering.{nat_cmp, is_eq}
use Rattle.std.specs.Cmp.{ranked}
use Rattle.std.specs.FinMap as map
use Rattle.std.specs.FinMap.Entries.{find, is_sorted}
use Rattle.std.proofs.lemmas.Bool.{and_from, leb-true, le-leb}
use Rattle.cc_views.specs.declared.row.Row.{Row}
use Rattle.cc_views.specs.Entries.{and_left, and_right, cmp_eq, find_below}
use Rattle.cc_views.specs.Rows.{Pair, ViewMap, entries_of}
use Rattle.cc_views.specs.Merge.{IsKept, IsAtMost, has_at_least, keeps}
use Rattle.cc_views.proofs.Absorbs.{get_of_rows}

kept_by_test : (p : Pair) (o : Option Pair) → has_at_least o p.0 ≡ true → IsKept (Some p) o
kept_by_test p None e = absurd cc
kept_by_test p (Some r) e = leb-true p.0 r.0 e

test_by_kept : (p : Pair) (o : Option Pair) → IsKept (Some p) o → has_at_least o p.0 ≡ true
test_by_kept p None h = absurd h
test_by_kept p (Some r) h = le-leb p.0 r.0 h

kept_by_rows : (rows : List Row) (w : ViewMap) → list_all (keeps w) rows ≡ true → (q : ℕ) → IsKept (find nat_cmp q (entries_of rows)) (map.get w q)
kept_by_rows [] w e q = tt
kept_by_rows (row ∷ rows) w e q =
    let pair : Pair = (row.number, row.value) in
    elim (nat_cmp q row.node) as (λ r. r ≡ nat_cmp q row.node → IsKept (cond (is_eq r) (Some pair) (find nat_cmp q (entries_of rows))) (map.get w q)) [
      | Less ↦ λ _. kept_by_rows rows w (and_right _ _ e) q
      | Equal ↦ λ is. subst (λ (k : ℕ). IsKept (Some pair) (map.get w k)) (sym (ranked q row.node Equal is))
        (kept_by_test pair (map.get w row.node) (and_left _ _ e))
      | Greater ↦ λ _. kept_by_rows rows w (and_right _ _ e) q
    ] refl

-- what is kept of a row and more is kept of the more, whose nodes are above the row's
kept_of_more : (row : Row) (rows : List Row) (w : ViewMap) → is_sorted nat_cmp (entries_of (row ∷ rows)) ≡ true → (q : ℕ)
    → IsKept (find nat_cmp q (entries_of (row ∷ rows))) (map.get w q) → IsKept (find nat_cmp q (entries_of rows)) (map.get w q)
kept_of_more row rows w rising q =
    let pair : Pair = (row.number, row.value) in
    let es = entries_of rows in
    elim (nat_cmp q row.node) as (λ r. r ≡ nat_cmp q row.node → IsKept (cond (is_eq r) (Some pair) (find nat_cmp q es)) (map.get w q)
      → IsKept (find nat_cmp q es) (map.get w q)) [
      | Less ↦ λ _ h. h
      | Equal ↦ λ is _.
          let none : find nat_cmp q es ≡ None = ap (λ (k : ℕ). find nat_cmp k es) (ranked q row.node Equal is) ∙ find_below row.node es (and_left _ _ rising) in
          subst (λ (o : Option Pair). IsKept o (map.get w q)) (sym none) tt
      | Greater ↦ λ _ h. h
    ] refl

rows_by_kept : (rows : List Row) (w : ViewMap) → is_sorted nat_cmp (entries_of rows) ≡ true
    → ((q : ℕ) → IsKept (find nat_cmp q (entries_of rows)) (map.get w q)) → list_all (keeps w) rows ≡ true
rows_by_kept [] w rising h = refl
rows_by_kept (row ∷ rows) w rising h =
    let pair : Pair = (row.number, row.value) in
    let here : cond (is_eq (nat_cmp row.node row.node)) (Some pair) (find nat_cmp row.node (entries_of rows)) ≡ Some pair =
    ap (λ r. cond (is_eq r) (Some pair) (find nat_cmp row.node (entries_of rows))) (cmp_eq row.node row.node refl) in
    let first : IsKept (Some pair) (map.get w row.node) = subst (λ (o : Option Pair). IsKept o (map.get w row.node)) here (h row.node) in
    and_from _ _ (test_by_kept pair (map.get w row.node) first) (rows_by_kept rows w (and_right _ _ rising) (λ q. kept_of_more row rows w rising q (h q)))

-- the test of all rows tells whether their view is at most the other
pub all_kept_is_at_most : (rows : List Row) (v w : ViewMap) (b : Bool) → is_sorted nat_cmp (entries_of rows) ≡ true
    → map.from_entries {R = nat_cmp} (entries_of rows) ≡ v
    → b ≡ list_all (keeps w) rows → IsTrue b ↔ IsAtMost v w
all_kept_is_at_most rows v w b rising is tested = (
  λ yes q. subst (λ (o : Option Pair). IsKept o (map.get w q)) (get_of_rows rows q v is) (kept_by_rows rows w (sym tested ∙ yes) q),
  λ at_most. tested ∙ rows_by_kept rows w rising (λ q. subst (λ (o : Option Pair). IsKept o (map.get w q)) (sym (get_of_rows rows q v is)) (at_most q)),
)
