-- Sets of ids as ascending lists, and how many ids they have.
--     rising_of_ascending, as_table, items-table_of          an ascending list is a table of marked numbers
--     held, push_ascending                                   a number that is there, and one above all
--     items_ascending, items-from_list, from_list-items      a set is its ascending list of items
--     len-items                                              how many it has, by that list
--     len-union, len-union_parts, len-difference             a union's and a difference's size, by counts over the items of one side
--     len-from_entries                                       a map has no more keys than the entries that it is made of
use Rattle.std.specs.Prelude.{◌≡◌, ℕ, ◌+◌, ◌<◌, ◌≤◌, Bool, true, false, cond, not, ◌&&◌, ◌||◌, List, [], ◌∷◌, ◌++◌, map, length, nat_eq}
use Rattle.std.specs.List.{AllByRecursion, list_any, filter, count_by}
use Rattle.std.specs.Ordering.{nat_cmp}
use Rattle.std.specs.FinMap as table
use Rattle.std.proofs.Common.{refl, sym, ap, subst, ◌∙◌, arith}
use Rattle.std.proofs.Math.Bool.{or_assoc, and-false}
use Rattle.std.proofs.lemmas.Bool.{eqb-true}
use Rattle.std.proofs.lemmas.Bool.Decides.{nat_tests}
use Rattle.std.proofs.lemmas.List.{length-map}
use Rattle.std.proofs.lemmas.List.Sums.{length-filter}
use Rattle.cc_views.specs.AscendingLists.{IsAscending}
use Rattle.cc_views.specs.Entries.{from_T, ascending_of_sorted, sorted_of_ascending}
use Rattle.cc_views.specs.MapLaws.{len_insert, insert_there}
use Rattle.cc_views.specs.Tables.{IsRising, IsAt, table_of, entries-table_of, get-at, rising-push}
use Rattle.cc_views.specs.NatSets.{NatSet, marked, contains, insert, insert_all, from_list, items, len, union, difference, contains-keys}
use Rattle.cc_views.specs.NatSets.{contains-from_list, contains-insert_all, contains-union, contains-difference, len-insert, same_ids}

unmarked : (qs : List ℕ) → map (λ e. e.0) (map marked qs) ≡ qs
unmarked [] = refl
unmarked (q ∷ qs) = ap (λ (t : List ℕ). q ∷ t) (unmarked qs)

-- numbers that ascend are rows that rise
pub rising_of_ascending : (qs : List ℕ) → IsAscending qs → IsRising marked qs
rising_of_ascending qs h = sorted_of_ascending (map marked qs) (subst IsAscending (sym (unmarked qs)) h)

pub ascending_of_rising : (qs : List ℕ) → IsRising marked qs → IsAscending qs
ascending_of_rising qs h = subst IsAscending (unmarked qs) (ascending_of_sorted (map marked qs) h)

-- and their set is the map that the rows keep
pub as_table : (qs : List ℕ) → from_list qs ≡ table_of marked qs
as_table [] = refl
as_table (q ∷ qs) = ap (λ (s : NatSet). insert s q) (as_table qs)

pub items-table_of : (qs : List ℕ) → IsRising marked qs → items (table_of marked qs) ≡ qs
items-table_of qs h = ap (map (λ (e : ℕ × Unit {0}). e.0)) (entries-table_of marked qs h) ∙ unmarked qs

-- a number that is there is not added
pub held : (qs : List ℕ) (q i : ℕ) → IsRising marked qs → IsAt marked qs q i → table_of marked qs ≡ insert (table_of marked qs) q
held qs q i h at = insert_there (table_of marked qs) q tt (get-at marked qs h q i at q)

-- a number above all goes to the end
pub push_ascending : (qs : List ℕ) (q : ℕ) → IsAscending qs → AllByRecursion (λ n. n < q) qs → IsAscending (qs ++ q ∷ [])
push_ascending qs q h above = ascending_of_rising (qs ++ q ∷ []) (rising-push marked qs q (rising_of_ascending qs h) above)

pub items_ascending : (s : NatSet) → IsAscending (items s)
items_ascending s = ascending_of_sorted (table.entries s) (from_T _ (table.entries_sorted s))

-- a set of ids in order has them as its items
pub items-from_list : (qs : List ℕ) → IsAscending qs → items (from_list qs) ≡ qs
items-from_list qs h = ap items (as_table qs) ∙ items-table_of qs (rising_of_ascending qs h)

-- and a set is the set of its items
pub from_list-items : (s : NatSet) → from_list (items s) ≡ s
from_list-items s = same_ids (from_list (items s)) s (λ q. contains-from_list (items s) q ∙ sym (contains-keys s q))

pub len-items : (s : NatSet) → len s ≡ length (items s)
len-items s = table.len-entries s ∙ sym (length-map (table.entries s) (λ e. e.0))

-- ---- counts

differ : (k q : ℕ) → k < q → nat_eq k q ≡ false
differ k q lt = grind (arith, nat_tests)

-- what is below all isn't among them
pub not_above : (k : ℕ) (qs : List ℕ) → AllByRecursion (λ q. k < q) qs → list_any (nat_eq k) qs ≡ false
not_above k [] h = refl
not_above k (q ∷ qs) h = rw (differ k q h.0) (not_above k qs h.1)

counted_more : (a b : Bool) (n m : ℕ) (q : ℕ) (ks : List ℕ) → b ≡ false → m ≡ n + length ks → cond (a || b) m (m + 1) ≡ n + length (cond (not a) (q ∷ ks) ks)
counted_more true b n m q ks f e = omega (arith, e)
counted_more false true n m q ks f e = absurd cc
counted_more false false n m q ks f e = omega (arith, e)

len_with_new : (s : NatSet) (qs : List ℕ) → IsAscending qs → len (insert_all s qs) ≡ len s + length (filter (λ q. not (contains s q)) qs)
len_with_new s [] h = omega arith
len_with_new s (q ∷ qs) h =
    len-insert (insert_all s qs) q
    ∙ ap (λ (b : Bool). cond b (len (insert_all s qs)) (len (insert_all s qs) + 1)) (contains-insert_all s qs q)
    ∙ counted_more (contains s q) (list_any (nat_eq q) qs) (len s) (len (insert_all s qs)) q (filter (λ k. not (contains s k)) qs) (not_above q qs h.0)
    (len_with_new s qs h.1)

pub len-insert_all : (s : NatSet) (qs : List ℕ) → IsAscending qs → len (insert_all s qs) ≡ len s + count_by (λ q. not (contains s q)) qs
len-insert_all s qs h = len_with_new s qs h ∙ ap (λ (n : ℕ). len s + n) (length-filter (λ q. not (contains s q)) qs)

-- a union has the ids of the one, and as many more as the other has that the one hasn't
pub len-union : (s t : NatSet) → len (union s t) ≡ len s + count_by (λ q. not (contains s q)) (items t)
unfolding union
len-union s t = len-insert_all s (items t) (items_ascending t)

-- ---- a part of a list

module _ (p : ℕ → Bool) where
  all_filter : (P : ℕ → Type 0) (qs : List ℕ) → AllByRecursion P qs → AllByRecursion P (filter p qs)
  all_filter P [] h = tt
  all_filter P (q ∷ qs) h = elim (p q) as (λ b. AllByRecursion P (cond b (q ∷ filter p qs) (filter p qs)))
      [ true ↦ (h.0, all_filter P qs h.1) | false ↦ all_filter P qs h.1 ]

  pub ascending_filter : (qs : List ℕ) → IsAscending qs → IsAscending (filter p qs)
  ascending_filter [] h = tt
  ascending_filter (q ∷ qs) h = elim (p q) as (λ b. IsAscending (cond b (q ∷ filter p qs) (filter p qs)))
      [ true ↦ (all_filter (λ r. q < r) qs h.0, ascending_filter qs h.1) | false ↦ ascending_filter qs h.1 ]

  with_it : (q k : ℕ) (ks : List ℕ) → nat_eq q k ≡ true → list_any (nat_eq q) (filter p ks) ≡ (list_any (nat_eq q) ks && p q) → (b : Bool) → p k ≡ b
      → list_any (nat_eq q) (cond b (k ∷ filter p ks) (filter p ks)) ≡ p q
  with_it q k ks e rest true is = rw e (sym is ∙ ap p (sym (eqb-true q k e)))
  with_it q k ks e rest false is =
      let none : p q ≡ false = ap p (eqb-true q k e) ∙ is in
      rest ∙ ap (λ (b : Bool). list_any (nat_eq q) ks && b) none ∙ and-false (list_any (nat_eq q) ks) ∙ sym none

  without_it : (q k : ℕ) (ks : List ℕ) → nat_eq q k ≡ false → list_any (nat_eq q) (filter p ks) ≡ (list_any (nat_eq q) ks && p q) → (b : Bool)
      → list_any (nat_eq q) (cond b (k ∷ filter p ks) (filter p ks)) ≡ (list_any (nat_eq q) ks && p q)
  without_it q k ks e rest true = rw e rest
  without_it q k ks e rest false = rest

  any_filter : (q : ℕ) (qs : List ℕ) → list_any (nat_eq q) (filter p qs) ≡ (list_any (nat_eq q) qs && p q)
  any_filter q [] = refl
  any_filter q (k ∷ ks) =
      elim (nat_eq q k) as (λ b. nat_eq q k ≡ b → list_any (nat_eq q) (cond (p k) (k ∷ filter p ks) (filter p ks)) ≡ ((b || list_any (nat_eq q) ks) && p q)) [
        | true ↦ λ e. with_it q k ks e (any_filter q ks) (p k) refl
        | false ↦ λ e. without_it q k ks e (any_filter q ks) (p k)
      ] refl

-- the items of a difference
pub items-difference : (s t : NatSet) → items (difference s t) ≡ filter (λ q. not (contains t q)) (items s)
items-difference s t =
    let kept = filter (λ q. not (contains t q)) (items s) in
    let same : difference s t ≡ from_list kept = same_ids (difference s t) (from_list kept) (λ q.
    contains-difference s t q ∙ ap (λ (b : Bool). b && not (contains t q)) (contains-keys s q)
    ∙ sym (contains-from_list kept q ∙ any_filter (λ k. not (contains t k)) q (items s))) in
    ap items same ∙ items-from_list kept (ascending_filter (λ k. not (contains t k)) (items s) (items_ascending s))

pub len-difference : (s t : NatSet) → len (difference s t) ≡ count_by (λ q. not (contains t q)) (items s)
len-difference s t = len-items (difference s t) ∙ ap length (items-difference s t) ∙ length-filter (λ q. not (contains t q)) (items s)

-- a union has the ids of the one, and those of the other that the one hasn't
pub len-union_parts : (s t : NatSet) → len (union s t) ≡ len s + len (difference t s)
len-union_parts s t = len-union s t ∙ ap (λ (n : ℕ). len s + n) (sym (len-difference t s))

pub union_assoc : (s t u : NatSet) → union s (union t u) ≡ union (union s t) u
union_assoc s t u = same_ids (union s (union t u)) (union (union s t) u) (λ q.
    contains-union s (union t u) q ∙ ap (λ (b : Bool). contains s q || b) (contains-union t u q)
    ∙ sym (or_assoc (contains s q) (contains t q) (contains u q))
    ∙ sym (contains-union (union s t) u q ∙ ap (λ (b : Bool). b || contains u q) (contains-union s t q)))

pub len-from_entries : {X : Type 0} (es : List (ℕ × X)) → table.len (table.from_entries {R = nat_cmp} es) ≤ length es
len-from_entries {X} [] = omega (arith, table.len-empty nat_cmp X)
len-from_entries (e ∷ es) = omega (arith, len_insert (table.from_entries es) e.0 e.1, len-from_entries es)
