-- Entries whose keys rise: an edit at a place is a `put`, and a map of such entries has them as its entries.
use Rattle.std.proofs.Common.{◌≡◌, ℕ, zero, suc, ◌<◌, ◌≤◌, Bool, true, false, ◌&&◌, T, List, [], ◌∷◌, map as list_map, length, get_or, set, Some}
use Rattle.std.proofs.Common.{None, refl, sym, ap, subst, ◌∙◌, arith, inl, inr}
use Rattle.std.specs.List.{AllByRecursion, insert}
use Rattle.std.proofs.lemmas.Bool.{and_from}
use Rattle.std.proofs.lemmas.List.{nil_from_length}
use Rattle.std.specs.Prelude.{◌⊎◌}
use Rattle.std.specs.declared.cmp.Ordering.TheVariants.{Less, Equal, Greater}
use Rattle.std.specs.Ordering.{nat_cmp, is_lt}
use Rattle.std.specs.Cmp.{ranked, nat_cmp_is, nat_cmp_total}
use Rattle.std.specs.FinMap as map
use Rattle.std.specs.FinMap.Entries.{find, put, below_all, is_sorted}
use Rattle.cc_views.specs.AscendingLists.{IsAscending}

pub cmp_lt : (a b : ℕ) → a < b → nat_cmp a b ≡ Less
cmp_lt a b h = sym (nat_cmp_is a b Less h)

pub cmp_eq : (a b : ℕ) → a ≡ b → nat_cmp a b ≡ Equal
cmp_eq a b h = sym (nat_cmp_is a b Equal h)

pub cmp_gt : (a b : ℕ) → b < a → nat_cmp a b ≡ Greater
cmp_gt a b h = sym (nat_cmp_is a b Greater h)

pub lt_from_cmp : (a b : ℕ) → is_lt (nat_cmp a b) ≡ true → a < b
lt_from_cmp a b e = elim (nat_cmp a b) as (λ r. r ≡ nat_cmp a b → is_lt r ≡ true → a < b) [
  | Less ↦ λ p _. ranked a b Less p
  | Equal ↦ λ _ q. absurd cc
  | Greater ↦ λ _ q. absurd cc
] refl e

pub and_left : (a b : Bool) → (a && b) ≡ true → a ≡ true
and_left true b e = refl
and_left false b e = absurd cc

pub and_right : (a b : Bool) → (a && b) ≡ true → b ≡ true
and_right true b e = e
and_right false b e = absurd cc

pub to_T : (b : Bool) → b ≡ true → T b
to_T b e = subst T (sym e) tt

pub from_T : (b : Bool) → T b → b ≡ true
from_T true h = refl
from_T false h = absurd h

module _ {X : Type 0} where
  above_of_below : (k : ℕ) (es : List (ℕ × X)) → below_all nat_cmp k es ≡ true → AllByRecursion (λ q. k < q) (list_map (λ e. e.0) es)
  above_of_below k [] h = tt
  above_of_below k (e ∷ es) h = (lt_from_cmp k e.0 (and_left _ _ h), above_of_below k es (and_right _ _ h))

  below_of_above : (k : ℕ) (es : List (ℕ × X)) → AllByRecursion (λ q. k < q) (list_map (λ e. e.0) es) → below_all nat_cmp k es ≡ true
  below_of_above k [] h = refl
  below_of_above k (e ∷ es) h = and_from _ _ (ap is_lt (cmp_lt k e.0 h.0)) (below_of_above k es h.1)

  -- keys rise where, as numbers, they ascend
  pub ascending_of_sorted : (es : List (ℕ × X)) → is_sorted nat_cmp es ≡ true → IsAscending (list_map (λ e. e.0) es)
  ascending_of_sorted [] h = tt
  ascending_of_sorted (e ∷ es) h = (above_of_below e.0 es (and_left _ _ h), ascending_of_sorted es (and_right _ _ h))

  pub sorted_of_ascending : (es : List (ℕ × X)) → IsAscending (list_map (λ e. e.0) es) → is_sorted nat_cmp es ≡ true
  sorted_of_ascending [] h = refl
  sorted_of_ascending (e ∷ es) h = and_from _ _ (below_of_above e.0 es h.0) (sorted_of_ascending es h.1)

  -- the first key is below each later one
  pub below_at : (k : ℕ) (es : List (ℕ × X)) → below_all nat_cmp k es ≡ true → (i : ℕ) (d : ℕ × X) → i < length es → k < (get_or es i d).0
  below_at k [] h i d lt = absurd (omega arith)
  below_at k (e ∷ es) h zero d lt = lt_from_cmp k e.0 (and_left _ _ h)
  below_at k (e ∷ es) h (suc i) d lt = below_at k es (and_right _ _ h) i d (omega arith)

  -- keys rise from place to place
  pub rises : (es : List (ℕ × X)) → is_sorted nat_cmp es ≡ true → (i j : ℕ) (d : ℕ × X) → i < j → j < length es → (get_or es i d).0 < (get_or es j d).0
  rises [] h i j d lt lj = absurd (omega arith)
  rises (e ∷ es) h i zero d lt lj = absurd (omega arith)
  rises (e ∷ es) h zero (suc j) d lt lj = below_at e.0 es (and_left _ _ h) j d (omega arith)
  rises (e ∷ es) h (suc i) (suc j) d lt lj = rises es (and_right _ _ h) i j d (omega arith) (omega arith)

  -- to write over the entry of a key is to put it
  pub put_at : (es : List (ℕ × X)) (i k : ℕ) (v : X) (d : ℕ × X) → is_sorted nat_cmp es ≡ true → i < length es → (get_or es i d).0 ≡ k
      → set es i (k, v) ≡ put nat_cmp k v es
  put_at [] i k v d h lt is = absurd (omega arith)
  put_at (e ∷ es) zero k v d h lt is =
      let c : nat_cmp k e.0 ≡ Equal = cmp_eq k e.0 (sym is) in
      rw c (ap (λ (q : ℕ). (q, v) ∷ es) (sym is))
  put_at (e ∷ es) (suc i) k v d h lt is =
      let later : e.0 < (get_or es i d).0 = below_at e.0 es (and_left _ _ h) i d (omega arith) in
      let c : nat_cmp k e.0 ≡ Greater = cmp_gt k e.0 (subst (λ (q : ℕ). e.0 < q) is later) in
      rw c (ap (λ (t : List (ℕ × X)). e ∷ t) (put_at es i k v d (and_right _ _ h) (omega arith) is))

  -- to insert an entry in the gap for its key is to put it
  pub put_gap : (es : List (ℕ × X)) (i k : ℕ) (v : X) (d : ℕ × X) → i ≤ length es
      → ((j : ℕ) → j < i → (get_or es j d).0 < k) → ((j : ℕ) → i ≤ j → j < length es → k < (get_or es j d).0)
      → insert es i (k, v) ≡ put nat_cmp k v es
  put_gap [] zero k v d le below above = refl
  put_gap [] (suc i) k v d le below above = absurd (omega arith)
  put_gap (e ∷ es) zero k v d le below above =
      let c : nat_cmp k e.0 ≡ Less = cmp_lt k e.0 (above 0 (omega arith) (omega arith)) in
      rw c refl
  put_gap (e ∷ es) (suc i) k v d le below above =
      let c : nat_cmp k e.0 ≡ Greater = cmp_gt k e.0 (below 0 (omega arith)) in
      rw c (ap (λ (t : List (ℕ × X)). e ∷ t) (put_gap es i k v d (omega arith) (λ j lt. below (suc j) (omega arith))
      (λ j lo hi. above (suc j) (omega arith) (omega arith))))

  -- the key at a place is found there
  pub find_at : (es : List (ℕ × X)) (i k : ℕ) (d : ℕ × X) → is_sorted nat_cmp es ≡ true → i < length es → (get_or es i d).0 ≡ k
      → find nat_cmp k es ≡ Some (get_or es i d).1
  find_at [] i k d h lt is = absurd (omega arith)
  find_at (e ∷ es) zero k d h lt is = rw (cmp_eq k e.0 (sym is)) refl
  find_at (e ∷ es) (suc i) k d h lt is =
      let later : e.0 < (get_or es i d).0 = below_at e.0 es (and_left _ _ h) i d (omega arith) in
      rw (cmp_gt k e.0 (subst (λ (q : ℕ). e.0 < q) is later)) (find_at es i k d (and_right _ _ h) (omega arith) is)

  -- a key that differs from each is not found
  pub find_none : (es : List (ℕ × X)) (k : ℕ) (d : ℕ × X) → ((j : ℕ) → j < length es → ((get_or es j d).0 < k) ⊎ (k < (get_or es j d).0))
      → find nat_cmp k es ≡ None
  find_none [] k d apart = refl
  find_none (e ∷ es) k d apart =
      let rest = find_none es k d (λ j lt. apart (suc j) (omega arith)) in
      elim (apart 0 (omega arith)) [
        | inl lt ↦ rw (cmp_gt k e.0 lt) rest
        | inr gt ↦ rw (cmp_lt k e.0 gt) rest
      ]

  -- a key below all is not found
  pub find_below : (k : ℕ) (es : List (ℕ × X)) → below_all nat_cmp k es ≡ true → find nat_cmp k es ≡ None
  find_below k [] h = refl
  find_below k (e ∷ es) h = rw (cmp_lt k e.0 (lt_from_cmp k e.0 (and_left _ _ h))) (find_below k es (and_right _ _ h))

  -- to put a key that is below all is to put it first
  put_below : (k : ℕ) (v : X) (es : List (ℕ × X)) → below_all nat_cmp k es ≡ true → put nat_cmp k v es ≡ (k, v) ∷ es
  put_below k v [] h = refl
  put_below k v (e ∷ es) h = rw (cmp_lt k e.0 (lt_from_cmp k e.0 (and_left _ _ h))) refl

  -- a map of entries in order has those entries
  pub entries_back : (es : List (ℕ × X)) → is_sorted nat_cmp es ≡ true → map.entries (map.from_entries {R = nat_cmp} es) ≡ es
  entries_back [] h = nil_from_length _ (sym (map.len-entries (map.empty {X = X} {R = nat_cmp})) ∙ map.len-empty nat_cmp X)
  entries_back (e ∷ es) h =
      map.entries-insert nat_cmp_total (map.from_entries es) e.0 e.1 ∙ ap (put nat_cmp e.0 e.1) (entries_back es (and_right _ _ h))
      ∙ put_below e.0 e.1 es (and_left _ _ h)
