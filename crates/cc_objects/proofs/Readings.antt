-- What goes over the rows finds what the objects read.
use Rattle.std.proofs.Common.{◌≡◌, ℕ, ◌<◌, Bool, true, false, ◌||◌, List, [], ◌∷◌, ◌++◌, map, length, get_or, max, suc, refl, sym, ap, ◌∙◌, arith}
use Rattle.std.specs.Prelude.{nat_eq}
use Rattle.std.specs.List.{AllByRecursion, AllPairs, dedup, flat_map, list_any, reduce, fold}
use Rattle.std.specs.List.Sorted.{IsPermutation, IsSorted}
use Rattle.std.proofs.lemmas.List.{length-map}
use Rattle.std.specs.Cmp.{nat_eq_equiv}
use Rattle.std.specs.FinMap as view
use Rattle.std.specs.Option.{unwrap_or}
use Rattle.std.specs.Ordering.{nat_cmp}
use Rattle.std.proofs.lemmas.List.Sorted.{list_any-IsPermutation}
use Rattle.std.proofs.lemmas.List.Kept.{Contains-dedup_nat, Contains-from_dedup, AllPairs-from_increasing}
use Rattle.std.proofs.Math.Bool.{or_assoc}
use Rattle.std.proofs.lemmas.Bool.{eqb-true}
use Rattle.std.proofs.lemmas.Map.Keys.{IsStrictlyIncreasing-dedup}
use Rattle.std.proofs.lemmas.Map.Views.{Contains-from_any, list_any-from_Contains}
use Rattle.cc_views.specs.declared.row.Row.{Row}
use Rattle.cc_views.specs.AscendingLists.{IsAscending}
use Rattle.cc_views.specs.NatSets.{contains, from_list, items, contains-empty, contains-from_list, contains-keys, contains-union, same_ids}
use Rattle.cc_views.specs.NatLists.{items-from_list}
use Rattle.cc_views.specs.Rows.{ViewMap, row_of, rows_of}
use Rattle.cc_objects.specs.Objects.{greatest, union_all}

any_append : (q : ℕ) (ns ms : List ℕ) → list_any (nat_eq q) (ns ++ ms) ≡ (list_any (nat_eq q) ns || list_any (nat_eq q) ms)
any_append q [] ms = refl
any_append q (n ∷ ns) ms = ap (λ b. nat_eq q n || b) (any_append q ns ms) ∙ sym (or_assoc (nat_eq q n) (list_any (nat_eq q) ns) (list_any (nat_eq q) ms))

-- what is in a set's items, one set after another, is what is in their union
any_member : (q : ℕ) (rows : List Row) → list_any (nat_eq q) (flat_map (λ row. items row.value.set) rows)
    ≡ contains (union_all (map (λ row. row.value.set) rows)) q
any_member q [] = sym (contains-empty q)
any_member q (row ∷ rows) =
    let members : List ℕ = flat_map (λ (row : Row). items row.value.set) rows in
    any_append q (items row.value.set) members
    ∙ ap (λ b. b || list_any (nat_eq q) members) (sym (contains-keys row.value.set q))
    ∙ ap (λ b. contains row.value.set q || b) (any_member q rows)
    ∙ sym (contains-union row.value.set (union_all (map (λ (row : Row). row.value.set) rows)) q)

same_answer : (a b : Bool) → (a ≡ true → b ≡ true) → (b ≡ true → a ≡ true) → a ≡ b
same_answer true b h k = sym (h refl)
same_answer false true h k = k refl
same_answer false false h k = refl

any_dedup : (q : ℕ) (ns : List ℕ) → list_any (nat_eq q) (dedup nat_eq ns) ≡ list_any (nat_eq q) ns
any_dedup q ns = same_answer _ _
    (λ e. list_any-from_Contains nat_eq_equiv q ns (Contains-from_dedup nat_eq ns q (Contains-from_any eqb-true q (dedup nat_eq ns) e)))
    (λ e. list_any-from_Contains nat_eq_equiv q (dedup nat_eq ns) (Contains-dedup_nat ns q (Contains-from_any eqb-true q ns e)))

all_above : (n : ℕ) (ns : List ℕ) → ((i d : ℕ) → i < length ns → n < get_or ns i d) → AllByRecursion (λ m. n < m) ns
all_above n [] h = tt
all_above n (m ∷ ns) h = (h 0 0 (omega arith), all_above n ns (λ i d lt. h (suc i) d (omega arith)))

ascending_of_pairs : (ns : List ℕ) → AllPairs (λ x y. x < y) ns → IsAscending ns
ascending_of_pairs [] h = tt
ascending_of_pairs (n ∷ ns) h = (
  all_above n ns (λ i d lt. h 0 (suc i) d (omega arith) (omega arith)),
  ascending_of_pairs ns (λ i j d lt lj. h (suc i) (suc j) d (omega arith) (omega arith)),
)

-- sorted and without what stands twice, the members are in ascending order
pub ascending_dedup : (ns : List ℕ) → IsSorted nat_cmp ns → IsAscending (dedup nat_eq ns)
ascending_dedup ns sorted = ascending_of_pairs (dedup nat_eq ns) (AllPairs-from_increasing (dedup nat_eq ns) (IsStrictlyIncreasing-dedup ns sorted))

-- and are the items of the union
pub items_of_union : (rows : List Row) (ns : List ℕ) → IsPermutation (flat_map (λ row. items row.value.set) rows) ns → IsSorted nat_cmp ns
    → dedup nat_eq ns ≡ items (union_all (map (λ row. row.value.set) rows))
items_of_union rows ns moved sorted =
    let all = union_all (map (λ (row : Row). row.value.set) rows) in
    let same : from_list (dedup nat_eq ns) ≡ all = same_ids (from_list (dedup nat_eq ns)) all (λ q.
    contains-from_list (dedup nat_eq ns) q ∙ any_dedup q ns
    ∙ sym (list_any-IsPermutation (nat_eq q) (flat_map (λ (row : Row). items row.value.set) rows) ns moved) ∙ any_member q rows) in
    sym (items-from_list (dedup nat_eq ns) (ascending_dedup ns sorted)) ∙ ap items same

pub as_many_rows : (v : ViewMap) → length (rows_of v) ≡ view.len v
as_many_rows v = length-map (view.entries v) row_of ∙ sym (view.len-entries v)

-- ---- the greatest number

max_assoc : (a b c : ℕ) → max (max a b) c ≡ max a (max b c)
max_assoc a b c = omega arith

fold_greatest : (a : ℕ) (ns : List ℕ) → fold max a ns ≡ max a (greatest ns)
fold_greatest a [] = omega arith
fold_greatest a (n ∷ ns) = fold_greatest (max a n) ns ∙ max_assoc a n (greatest ns)

pub greatest_is : (ns : List ℕ) → unwrap_or (reduce max ns) 0 ≡ greatest ns
greatest_is [] = refl
greatest_is (n ∷ ns) = fold_greatest n ns
