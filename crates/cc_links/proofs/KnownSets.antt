-- Ids in order as a set: one more, and all of a list.
use Rattle.std.proofs.Common.{◌≡◌, ℕ, suc, ◌+◌, ◌<◌, ◌≤◌, Bool, true, false, inl, inr, List, [], ◌∷◌, ◌++◌, map, length, get_or, take, drop, drop-cons, add-one, refl, sym, ap, ◌∙◌, arith}
use Rattle.std.specs.List.{insert}
use Rattle.std.specs.Prelude.{◌↔◌}
use Rattle.std.proofs.lemmas.Bool.{or_left, cases_lt, both_ways}
use Rattle.std.proofs.Math.ListN.{get_or-map}
use Rattle.std.proofs.lemmas.List.{length-map, take_more}
use Rattle.std.proofs.lemmas.List.Edits.{length-insert}
use Rattle.cc_views.specs.NatLists.{held}
use Rattle.cc_views.specs.NatSets as set
use Rattle.cc_views.specs.NatSets.{NatSet, marked, contains-insert_all, insert_all-insert, insert_all-append, len_within}
use Rattle.cc_views.specs.Tables.{IsAt, IsGapFor, table_of, table_of-insert, rising-insert, len-table_of, len-insert_gap}
use Rattle.cc_links.specs.KnownIds.{AreKnown, FillsUp}

pub len_known : {ids : List ℕ} {s : NatSet} → AreKnown ids → table_of marked ids ≡ s → set.len s ≤ 256
len_known {ids} known view = omega (arith, len-table_of marked ids known.rising, known.fits, ap set.len view)

pub there_already : {ids : List ℕ} {id i : ℕ} {s : NatSet} → AreKnown ids → table_of marked ids ≡ s → IsAt marked ids id i → s ≡ set.insert s id
there_already {id = id} known view at = sym view ∙ held _ _ _ known.rising at ∙ ap (λ (m : NatSet). set.insert m id) view

-- what one more id, with the number q, makes of them
pub record Grown (ids : List ℕ) (id q i : ℕ) (s : NatSet) : Type 0 where
  pub count : set.len (set.insert s q) ≡ length ids + 1
  pub known : length ids < 256 → AreKnown (insert ids i id)
  pub same : table_of marked (insert ids i id) ≡ set.insert s q

pub grown : {ids : List ℕ} {id q i : ℕ} {s : NatSet} → AreKnown ids → table_of marked ids ≡ s → IsGapFor marked ids id i → id ≡ q → Grown ids id q i s
grown {ids} {id} {q} {i} known view gap is = record {
  count = sym (λ j. set.len (set.insert (view j) (is j))) ∙ len-insert_gap marked ids id i gap tt known.rising;
  known = λ room. record { rising = rising-insert marked ids id i gap id refl known.rising; fits = omega (arith, length-insert ids i id gap.in_range) };
  same = table_of-insert marked ids id i gap id refl ∙ (λ j. set.insert (view j) (is j));
}

pub len_insert_all : (s : NatSet) (ids : List ℕ) → set.len s ≤ set.len (set.insert_all s ids)
len_insert_all s ids = len_within s (set.insert_all s ids) (λ q h. contains-insert_all s ids q ∙ or_left _ _ h)

-- where ids fit, the first of them does
pub first_fits : (s all : NatSet) (ids : List ℕ) → set.insert_all s ids ≡ all → set.len all ≤ 256 → set.len s ≤ 256
first_fits s all ids same fits = omega (arith, len_insert_all s ids, ap set.len same, fits)

-- the next id that a loop takes; beyond the list it would read some other number
pub next_number : (s all : NatSet) (ids : List ℕ) (i id other : ℕ) → i < length ids → id ≡ get_or ids i other → set.insert_all s (drop i ids) ≡ all
    → set.insert_all (set.insert s id) (drop (i + 1) ids) ≡ all
next_number s all ids i id other lt is h =
    let front : drop i ids ≡ id ∷ drop (i + 1) ids = drop-cons ids i other lt ∙ ap (λ (q : ℕ). q ∷ drop (suc i) ids)
    (sym is) ∙ ap (λ (n : ℕ). id ∷ drop n ids) (sym (add-one i)) in
    insert_all-insert s id (drop (i + 1) ids) ∙ sym (ap (set.insert_all s) front) ∙ h

pub next_id : (s all : NatSet) (ids : List ℕ) (i id : ℕ) → i < length ids → id ≡ get_or ids i id → set.insert_all s (drop i ids) ≡ all
    → set.insert_all (set.insert s id) (drop (i + 1) ids) ≡ all
next_id s all ids i id lt is h = next_number s all ids i id id lt is h

-- the next row that a loop takes
pub next_named : {Row : Type 0} (f : Row → ℕ) (s all : NatSet) (rows : List Row) (i : ℕ) (row : Row) → i < length rows → row ≡ get_or rows i row
    → set.insert_all s (drop i (map f rows)) ≡ all → set.insert_all (set.insert s (f row)) (drop (i + 1) (map f rows)) ≡ all
next_named f s all rows i row lt is h =
    next_id s all (map f rows) i (f row) (omega (arith, lt, length-map rows f)) (ap f is ∙ sym (get_or-map f rows i row)) h

-- ---- those that were taken so far

pub front_number : (s before : NatSet) (ids : List ℕ) (i id other : ℕ) → i < length ids → id ≡ get_or ids i other
    → before ≡ set.insert_all s (take i ids) → set.insert before id ≡ set.insert_all s (take (i + 1) ids)
front_number s before ids i id other lt is h =
    ap (λ (t : NatSet). set.insert t id) h ∙ sym (insert_all-insert s id (take i ids)) ∙ sym (insert_all-append s (take i ids) (id ∷ []))
    ∙ ap (set.insert_all s) (ap (λ (q : ℕ). take i ids ++ q ∷ []) is ∙ sym (take_more ids i other lt))

pub front_id : (s before : NatSet) (ids : List ℕ) (i id : ℕ) → i < length ids → id ≡ get_or ids i id
    → before ≡ set.insert_all s (take i ids) → set.insert before id ≡ set.insert_all s (take (i + 1) ids)
front_id s before ids i id lt is h = front_number s before ids i id id lt is h

pub front_named : {Row : Type 0} (f : Row → ℕ) (s before : NatSet) (rows : List Row) (i : ℕ) (row : Row) → i < length rows → row ≡ get_or rows i row
    → before ≡ set.insert_all s (take i (map f rows)) → set.insert before (f row) ≡ set.insert_all s (take (i + 1) (map f rows))
front_named f s before rows i row lt is h =
    front_id s before (map f rows) i (f row) (omega (arith, lt, length-map rows f)) (ap f is ∙ sym (get_or-map f rows i row)) h

-- the next one is one too many
pub fills_up : (s before after : NatSet) (ids : List ℕ) (i id : ℕ) (fits : Bool) → i < length ids → before ≡ set.insert_all s (take i ids)
    → set.insert before id ≡ set.insert_all s (take (i + 1) ids) → ((fits ≡ true) ↔ (set.len (set.insert before id) ≤ 256)) → fits ≡ false
    → after ≡ before → FillsUp s ids after
fills_up s before after ids i id fits lt front next tells misses same = record {
  count = i;
  within = lt;
  is = same ∙ front;
  over = elim (cases_lt 256 (set.len (set.insert_all s (take (i + 1) ids)))) [
    | inl more ↦ more
    | inr few ↦ absurd (both_ways fits misses (tells.1 (omega (arith, few, ap set.len next))))
  ];
}

pub fills_named : {Row : Type 0} (f : Row → ℕ) (s before after : NatSet) (rows : List Row) (i : ℕ) (row : Row) (fits : Bool) → i < length rows
    → row ≡ get_or rows i row → before ≡ set.insert_all s (take i (map f rows)) → ((fits ≡ true) ↔ (set.len (set.insert before (f row)) ≤ 256))
    → fits ≡ false → after ≡ before → FillsUp s (map f rows) after
fills_named f s before after rows i row fits lt is front tells misses same =
    fills_up s before after (map f rows) i (f row) fits (omega (arith, lt, length-map rows f)) front (front_named f s before rows i row lt is front)
    tells misses same
