-- All writes of a cluster, and any double collects, stand in one order.
--     lex_irreflexive, lex_transitive, lex_total     the lexicographic order is strict and total
--     place_of                     the first place of a list at which something holds, or its length
--     released_place               the first moment of a run by which a node has released so many writing asks
--     key, before                  a write stands before the first double collect that shows it;  the order by the keys
--     linearized                   it is a linearization
use Rattle.std.proofs.Common.{◌≡◌, ◌⊎◌, ℕ, zero, suc, ◌<◌, ◌≤◌, min, List, [], ◌∷◌, take, length, get_or, refl, sym, ap, subst, ◌∙◌, inl, inr, arith}
use Rattle.std.specs.Prelude.{Option, Some, None, IsSomeAnd, slice_get, ⊤, ◌↔◌}
use Rattle.std.specs.List.{AllByRecursion}
use Rattle.std.specs.FinMap as table
use Rattle.std.proofs.lemmas.Bool.{cases_lt}
use Rattle.std.proofs.lemmas.List.{take_min}
use Rattle.std.proofs.lemmas.Option.{same_Some, slice_get_within}
use Rattle.cc_views.specs.Rows.{Pair, ViewMap}
use Rattle.cc_views.specs.declared.value.Value.{Value}
use Rattle.cc_messages.specs.declared.answer.Answer.TheVariants as answer
use Rattle.cc_messages.specs.declared.output.Output.TheVariants as output
use Rattle.cc_laws.specs.Clusters.{Member, Cluster, Move}
use Rattle.cc_laws.specs.Runs.{Run, IsFreshCluster, among_sent}
use Rattle.cc_laws.specs.Regular.{IsStored, HasAtLeast, RoundsMeet}
use Rattle.cc_laws.specs.DoubleCollects.{Moment, writes_of, HasWrites, LacksWrite, DoubleCollect, AreInOrder, IsBelow, Operation, Write, Collect, Precedes, IsLinearization}
use Rattle.cc_laws.proofs.Agreement.{all_written}
use Rattle.cc_laws.proofs.ClusterSteps.{Holds}
use Rattle.cc_laws.proofs.ClusterMoves.{move_holds, fresh_holds}
use Rattle.cc_laws.proofs.DoubleCollectSteps.{Leads, led_on, step_one, later, writes_on, no_both, stored_writes, shows_on, holds_at, answered_later, lacks_later}
use Rattle.cc_laws.proofs.DoubleCollectSteps.{never_ahead, none_later, within, has_stored}

-- ---- the lexicographic order

lex_irreflexive : (xs : List ℕ) → IsBelow xs xs → ⊥
lex_irreflexive [] h = h
lex_irreflexive (x ∷ xs) (inl less) = omega (arith, less)
lex_irreflexive (x ∷ xs) (inr rest) = lex_irreflexive xs rest.1

lex_transitive : (xs ys zs : List ℕ) → IsBelow xs ys → IsBelow ys zs → IsBelow xs zs
lex_transitive [] [] zs h k = absurd h
lex_transitive [] (y ∷ ys) [] h k = absurd k
lex_transitive [] (y ∷ ys) (z ∷ zs) h k = tt
lex_transitive (x ∷ xs) [] zs h k = absurd h
lex_transitive (x ∷ xs) (y ∷ ys) [] h k = absurd k
lex_transitive (x ∷ xs) (y ∷ ys) (z ∷ zs) (inl h) (inl k) = inl (omega (arith, h, k))
lex_transitive (x ∷ xs) (y ∷ ys) (z ∷ zs) (inl h) (inr k) = inl (omega (arith, h, k.0))
lex_transitive (x ∷ xs) (y ∷ ys) (z ∷ zs) (inr h) (inl k) = inl (omega (arith, h.0, k))
lex_transitive (x ∷ xs) (y ∷ ys) (z ∷ zs) (inr h) (inr k) = inr (h.0 ∙ k.0, lex_transitive xs ys zs h.1 k.1)

abbrev Trichotomy : List ℕ → List ℕ → Type 0
Trichotomy xs ys = (xs ≡ ys) ⊎ (IsBelow xs ys ⊎ IsBelow ys xs)

lex_total : (xs ys : List ℕ) → Trichotomy xs ys
lex_total [] [] = inl refl
lex_total [] (y ∷ ys) = inr (inl tt)
lex_total (x ∷ xs) [] = inr (inr tt)
lex_total (x ∷ xs) (y ∷ ys) = by_first (cases_lt x y) (cases_lt y x) (lex_total xs ys)
  where
    by_rest : x ≡ y → Trichotomy xs ys → Trichotomy (x ∷ xs) (y ∷ ys)
    by_rest same (inl is) = inl (λ i. same i ∷ is i)
    by_rest same (inr (inl less)) = inr (inl (inr (same, less)))
    by_rest same (inr (inr more)) = inr (inr (inr (sym same, more)))

    by_first : (x < y) ⊎ (y ≤ x) → (y < x) ⊎ (x ≤ y) → Trichotomy xs ys → Trichotomy (x ∷ xs) (y ∷ ys)
    by_first (inl less) _ rest = inr (inl (inl less))
    by_first (inr no_less) (inl more) rest = inr (inr (inl more))
    by_first (inr no_less) (inr no_more) rest = by_rest (omega (arith, no_less, no_more)) rest

-- the first numbers decide, or what comes behind them
or_behind : {R : Type 0} (x y : ℕ) → x ≤ y → R → (x < y) ⊎ ((x ≡ y) × R)
or_behind {R} x y le rest = elim (cases_lt x y) as (λ _. (x < y) ⊎ ((x ≡ y) × R)) [
  | inl less ↦ inl less
  | inr no_less ↦ inr (omega (arith, le, no_less), rest)
]

-- ---- first places

abbrev none_then : {A B : Type 0} → A ⊎ B → ℕ → ℕ
none_then (inl holds) more = 0
none_then (inr fails) more = suc more

all_in : {X : Type 0} (Q : X → Type 0) (xs : List X) (i : ℕ) (x : X) → slice_get xs i ≡ Some x → AllByRecursion Q xs → Q x
all_in Q [] i x is h = cc
all_in Q (y ∷ xs) zero x is h = subst Q (same_Some y x is) h.0
all_in Q (y ∷ xs) (suc i) x is h = all_in Q xs i x is h.1

module _ {X : Type 0} (P : X → Type 0) (tells : (x : X) → P x ⊎ (P x → ⊥)) where
  abbrev place_of : List X → ℕ
  place_of [] = 0
  place_of (x ∷ xs) = none_then (tells x) (place_of xs)

  place_low : (xs : List X) (i : ℕ) (x : X) → slice_get xs i ≡ Some x → P x → place_of xs ≤ i
  place_low [] i x is h = cc
  place_low (y ∷ xs) zero x is h = elim (tells y) as (λ t. none_then t (place_of xs) ≤ 0) [
    | inl holds ↦ omega arith
    | inr fails ↦ absurd (fails (subst P (sym (same_Some y x is)) h))
  ]
  place_low (y ∷ xs) (suc i) x is h = elim (tells y) as (λ t. none_then t (place_of xs) ≤ suc i) [
    | inl holds ↦ omega arith
    | inr fails ↦ omega (arith, place_low xs i x is h)
  ]

  place_most : (xs : List X) → place_of xs ≤ length xs
  place_most [] = omega arith
  place_most (y ∷ xs) = elim (tells y) as (λ t. none_then t (place_of xs) ≤ length (y ∷ xs)) [
    | inl holds ↦ omega arith
    | inr fails ↦ omega (arith, place_most xs)
  ]

  place_has : (xs : List X) → place_of xs < length xs → (x : X) × (slice_get xs (place_of xs) ≡ Some x) × P x
  place_has [] less = absurd (omega (arith, less))
  place_has (y ∷ xs) less =
      elim (tells y)
      as (λ t. none_then t (place_of xs) < length (y ∷ xs) → (x : X) × (slice_get (y ∷ xs) (none_then t (place_of xs)) ≡ Some x) × P x) [
        | inl holds ↦ λ _. (y, refl, holds)
        | inr fails ↦ λ below. place_has xs (omega (arith, below))
      ] less

-- where one thing holds wherever another one does, it does so first
place_before : {X : Type 0} (P Q : X → Type 0) (tells : (x : X) → P x ⊎ (P x → ⊥)) (tells_other : (x : X) → Q x ⊎ (Q x → ⊥)) (xs : List X)
    → ((x : X) → Q x → P x) → place_of P tells xs ≤ place_of Q tells_other xs
place_before P Q tells tells_other xs all =
    elim (cases_lt (place_of Q tells_other xs) (length xs)) as (λ _. place_of P tells xs ≤ place_of Q tells_other xs) [
      | inl within ↦
          let there = place_has Q tells_other xs within in
          place_low P tells xs (place_of Q tells_other xs) there.0 there.1 (all there.0 there.2)
      | inr behind ↦ omega (arith, place_most P tells xs, behind)
    ]

-- ---- what is told

at_least_or : (o : Option Pair) (n : ℕ) → IsSomeAnd o (λ e. n ≤ e.0) ⊎ (IsSomeAnd o (λ e. n ≤ e.0) → ⊥)
at_least_or None n = inr (λ h. h)
at_least_or (Some e) n = elim (cases_lt e.0 n) as (λ _. (n ≤ e.0) ⊎ (n ≤ e.0 → ⊥)) [
  | inl less ↦ inr (λ le. omega (arith, less, le))
  | inr no_less ↦ inl no_less
]

writes_or : (o : Option Member) (n : ℕ) → IsSomeAnd o (λ m. n ≤ writes_of m) ⊎ (IsSomeAnd o (λ m. n ≤ writes_of m) → ⊥)
writes_or None n = inr (λ h. h)
writes_or (Some m) n = elim (cases_lt (writes_of m) n) as (λ _. (n ≤ writes_of m) ⊎ (n ≤ writes_of m → ⊥)) [
  | inl less ↦ inr (λ le. omega (arith, less, le))
  | inr no_less ↦ inl no_less
]

fewer_shown : (o : Option Pair) (n m : ℕ) → n ≤ m → IsSomeAnd o (λ e. m ≤ e.0) → IsSomeAnd o (λ e. n ≤ e.0)
fewer_shown None n m le h = h
fewer_shown (Some e) n m le h = omega (arith, le, h)

fewer_writes : (o : Option Member) (n m : ℕ) → n ≤ m → IsSomeAnd o (λ e. m ≤ writes_of e) → IsSomeAnd o (λ e. n ≤ writes_of e)
fewer_writes None n m le h = h
fewer_writes (Some e) n m le h = omega (arith, le, h)

-- ---- when a write was released

module _ (q n : ℕ) where
  abbrev told_at : (c : Cluster) → HasWrites c q n ⊎ (HasWrites c q n → ⊥)
  told_at c = writes_or (table.get c.members q) n

  abbrev released_place : (c : Cluster) (moves : List (ℕ × Move)) (d : Cluster) → Run c moves d → ℕ
  released_place c [] d run = none_then (told_at c) 0
  released_place c (move ∷ moves) d run = none_then (told_at c) (released_place run.0 moves d run.2)

  at_once : (c e : Cluster) (more : ℕ) → e ≡ c → HasWrites e q n → none_then (told_at c) more ≤ 0
  at_once c e more is has = elim (told_at c) as (λ t. none_then t more ≤ 0) [
    | inl holds ↦ omega arith
    | inr fails ↦ absurd (fails (subst (λ (z : Cluster). HasWrites z q n) is has))
  ]

  released_low : (c : Cluster) (moves : List (ℕ × Move)) (d : Cluster) (run : Run c moves d) (k : ℕ) (e : Cluster) → Run c (take k moves) e
      → HasWrites e q n → released_place c moves d run ≤ k
  released_low c [] d run zero e to has = at_once c e 0 to has
  released_low c [] d run (suc k) e to has = omega (arith, at_once c e 0 to has)
  released_low c (move ∷ moves) d run zero e to has = at_once c e (released_place run.0 moves d run.2) to has
  released_low c (move ∷ moves) d run (suc k) e to has =
      let next : to.0 ≡ run.0 = step_one c move to.0 run.0 to.1 run.1 in
      let rest = released_low run.0 moves d run.2 k e (subst (λ (z : Cluster). Run z (take k moves) e) next to.2) has in
      elim (told_at c) as (λ t. none_then t (released_place run.0 moves d run.2) ≤ suc k) [
        | inl holds ↦ omega arith
        | inr fails ↦ omega (arith, rest)
      ]

  lacks_first : (c e : Cluster) (more : ℕ) → Holds c → Leads c e → LacksWrite e q n → 0 < none_then (told_at c) more
  lacks_first c e more h on lacks = elim (told_at c) as (λ t. 0 < none_then t more) [
    | inl holds ↦ absurd (no_both e q n (writes_on c e h on q n holds) lacks)
    | inr fails ↦ omega arith
  ]

  lacks_high : (c : Cluster) (moves : List (ℕ × Move)) (d : Cluster) (run : Run c moves d) → Holds c → (k : ℕ) → k ≤ length moves → (e : Cluster)
      → Run c (take k moves) e → LacksWrite e q n → k < released_place c moves d run
  lacks_high c [] d run h zero fits e on lacks = lacks_first c e 0 h ([], on) lacks
  lacks_high c [] d run h (suc k) fits e on lacks = absurd (omega (arith, fits))
  lacks_high c (move ∷ moves) d run h zero fits e on lacks = lacks_first c e (released_place run.0 moves d run.2) h ([], on) lacks
  lacks_high c (move ∷ moves) d run h (suc k) fits e on lacks =
      let next : on.0 ≡ run.0 = step_one c move on.0 run.0 on.1 run.1 in
      let rest = lacks_high run.0 moves d run.2 (move_holds c move.0 run.1.0 h run.1.1 move.1 run.0 run.1.2) k (omega (arith, fits)) e
      (subst (λ (z : Cluster). Run z (take k moves) e) next on.2) lacks in
      elim (told_at c) as (λ t. suc k < none_then t (released_place run.0 moves d run.2)) [
        | inl holds ↦ absurd (no_both e q n (writes_on c e h (move ∷ take k moves, on) q n holds) lacks)
        | inr fails ↦ omega (arith, rest)
      ]

-- the writes of a node are released by their numbers
sooner_told : (q n m : ℕ) → n ≤ m → (c : Cluster) (x y : ℕ) → x ≤ y → none_then (told_at q n c) x ≤ none_then (told_at q m c) y
sooner_told q n m le c x y less = elim (told_at q n c) as (λ t. none_then t x ≤ none_then (told_at q m c) y) [
  | inl holds ↦ omega arith
  | inr fails ↦ elim (told_at q m c) as (λ t. suc x ≤ none_then t y) [
    | inl more ↦ absurd (fails (fewer_writes (table.get c.members q) n m le more))
    | inr none ↦ omega (arith, less)
  ]
]

released_by_number : (q n m : ℕ) → n ≤ m → (c : Cluster) (moves : List (ℕ × Move)) (d : Cluster) (run : Run c moves d)
    → released_place q n c moves d run ≤ released_place q m c moves d run
released_by_number q n m le c [] d run = sooner_told q n m le c 0 0 (omega arith)
released_by_number q n m le c (move ∷ moves) d run =
    sooner_told q n m le c (released_place q n run.0 moves d run.2) (released_place q m run.0 moves d run.2)
    (released_by_number q n m le run.0 moves d run.2)

-- ---- the order

module _ (c d : Cluster) (moves : List (ℕ × Move)) (begins : IsFreshCluster c) (run : Run c moves d) (meet : RoundsMeet d)
    (collects : List (DoubleCollect c moves d)) (ordered : AreInOrder c moves d collects) where
  abbrev Shown : ℕ → ℕ → DoubleCollect c moves d → Type 0
  Shown q n a = HasAtLeast a.view q n

  abbrev shown_or : (q n : ℕ) (a : DoubleCollect c moves d) → Shown q n a ⊎ (Shown q n a → ⊥)
  shown_or q n a = at_least_or (table.get a.view q) n

  -- the first double collect that shows a write
  abbrev showing : ℕ → ℕ → ℕ
  showing q n = place_of (Shown q n) (shown_or q n) collects

  abbrev released : ℕ → ℕ → ℕ
  released q n = released_place q n c moves d run

  abbrev key : Operation → List ℕ
  key (Write q n) = showing q n ∷ 0 ∷ released q n ∷ q ∷ n ∷ []
  key (Collect i) = i ∷ 1 ∷ []

  abbrev before : Operation → Operation → Type 0
  before o p = IsBelow (key o) (key p)

  keys_tell : (o p : Operation) → key o ≡ key p → o ≡ p
  keys_tell (Write q n) (Write p m) is =
      let node : q ≡ p = ap (λ (l : List ℕ). get_or l 3 0) is in
      let number : n ≡ m = ap (λ (l : List ℕ). get_or l 4 0) is in
      λ i. Write (node i) (number i)
  keys_tell (Write q n) (Collect i) is = let never : 0 ≡ 1 = ap (λ (l : List ℕ). get_or l 1 0) is in absurd (omega (arith, never))
  keys_tell (Collect i) (Write q n) is = let never : 1 ≡ 0 = ap (λ (l : List ℕ). get_or l 1 0) is in absurd (omega (arith, never))
  keys_tell (Collect i) (Collect j) is = let place : i ≡ j = ap (λ (l : List ℕ). get_or l 0 0) is in λ k. Collect (place k)

  -- those further on in the list come no earlier
  by_moments : (xs : List (DoubleCollect c moves d)) → AreInOrder c moves d xs → (i j : ℕ) (a b : DoubleCollect c moves d)
      → slice_get xs i ≡ Some a → slice_get xs j ≡ Some b → i ≤ j → a.moment.made ≤ b.moment.made
  by_moments [] h i j a b at at_b le = cc
  by_moments (x ∷ xs) h zero zero a b at at_b le =
      let same : a ≡ b = sym (same_Some x a at) ∙ same_Some x b at_b in
      let is : a.moment.made ≡ b.moment.made = ap (λ (z : DoubleCollect c moves d). z.moment.made) same in
      omega (arith, is)
  by_moments (x ∷ xs) h zero (suc j) a b at at_b le =
      let first : x.moment.made ≡ a.moment.made = ap (λ (z : DoubleCollect c moves d). z.moment.made) (same_Some x a at) in
      let up = all_in (λ (z : DoubleCollect c moves d). x.moment.made ≤ z.moment.made) xs j b at_b h.0 in
      omega (arith, first, up)
  by_moments (x ∷ xs) h (suc i) zero a b at at_b le = absurd (omega (arith, le))
  by_moments (x ∷ xs) h (suc i) (suc j) a b at at_b le = by_moments xs h.1 i j a b at at_b (omega (arith, le))

  led : (i j : ℕ) (a b : DoubleCollect c moves d) → slice_get collects i ≡ Some a → slice_get collects j ≡ Some b → i ≤ j
      → Leads a.moment.now b.moment.now
  led i j a b at at_b le =
      later c moves a.moment.made b.moment.made a.moment.now b.moment.now (by_moments collects ordered i j a b at at_b le) a.moment.run b.moment.run

  -- ---- a double collect shows the writes before it

  shown_from : (i : ℕ) (a : DoubleCollect c moves d) → slice_get collects i ≡ Some a → (q n : ℕ) → showing q n ≤ i → HasAtLeast a.view q n
  shown_from i a at q n le =
      let fits = slice_get_within collects i a at in
      let first = place_has (Shown q n) (shown_or q n) collects (omega (arith, le, fits)) in
      let on = led (showing q n) i first.0 a first.1 at le in
      shows_on first.0.view a.view (within c d moves begins run meet first.0 a on) q n first.2

  shows_before : (i : ℕ) (a : DoubleCollect c moves d) → slice_get collects i ≡ Some a → (q n : ℕ) → HasAtLeast a.view q n
      → before (Write q n) (Collect i)
  shows_before i a at q n shown = or_behind (showing q n) i (place_low (Shown q n) (shown_or q n) collects i a at shown) (inl (omega arith))

  before_shown : (i : ℕ) (a : DoubleCollect c moves d) → slice_get collects i ≡ Some a → (q n : ℕ) → before (Write q n) (Collect i)
      → HasAtLeast a.view q n
  before_shown i a at q n (inl less) = shown_from i a at q n (omega (arith, less))
  before_shown i a at q n (inr rest) = shown_from i a at q n (omega (arith, rest.0))

  -- ---- what precedes what

  numbered : (q n m : ℕ) → n < m → before (Write q n) (Write q m)
  numbered q n m less =
      let sooner = place_before (Shown q n) (Shown q m) (shown_or q n) (shown_or q m) collects
      (λ a. fewer_shown (table.get a.view q) n m (omega (arith, less))) in
      let earlier = released_by_number q n m (omega (arith, less)) c moves d run in
      or_behind (showing q n) (showing q m) sooner (inr (refl, or_behind (released q n) (released q m) earlier (inr (refl, inl less))))

  -- where a write isn't asked yet, no double collect before that shows it
  sooner_shown : (m : Moment c moves) (q n s r : ℕ) → IsStored m.now q n s r → (p k : ℕ) → LacksWrite m.now p k → showing q n ≤ showing p k
  sooner_shown m q n s r stored p k lacks =
      place_before (Shown q n) (Shown p k) (shown_or q n) (shown_or p k) collects (λ a shown.
      has_stored c d moves begins run meet a m q n s r
      (lacks_later c d moves begins run m a.moment p k lacks (none_later c d moves begins run a p k shown)) stored)

  sooner_released : (m : Moment c moves) (q n s r : ℕ) → IsStored m.now q n s r → (p k : ℕ) → LacksWrite m.now p k → released q n < released p k
  sooner_released m q n s r stored p k lacks =
      let j = min m.made (length moves) in
      let to : Run c (take j moves) m.now = subst (λ (l : List (ℕ × Move)). Run c l m.now) (sym (take_min m.made moves)) m.run in
      let low = released_low q n c moves d run j m.now to (stored_writes m.now q n s r stored) in
      let high = lacks_high p k c moves d run (fresh_holds c begins) j (omega arith) m.now to lacks in
      omega (arith, low, high)

  in_time : (o p : Operation) → Precedes c moves d collects o p → before o p
  in_time (Write q n) (Write p k) (m, stored, lacks) =
      or_behind (showing q n) (showing p k) (sooner_shown m q n stored.0 stored.1 stored.2 p k lacks)
      (inr (refl, inl (sooner_released m q n stored.0 stored.1 stored.2 p k lacks)))
  in_time (Write q n) (Collect i) (m, stored, asks) =
      let a = asks.0 in
      shows_before i a asks.1 q n
      (has_stored c d moves begins run meet a m q n stored.0 stored.1
      (answered_later c d moves begins run m a.moment a.node a.s a.r a.view asks.2 a.first) stored.2)
  in_time (Collect i) (Write q n) (m, answers, lacks) =
      let a = answers.0 in
      elim (cases_lt i (showing q n)) as (λ _. before (Collect i) (Write q n)) [
        | inl less ↦ inl less
        | inr no_less ↦
            let has = none_later c d moves begins run a q n (shown_from i a answers.1 q n no_less) in
            let on = answered_later c d moves begins run a.moment m a.node a.x a.y a.view a.apart answers.2 in
            absurd (no_both m.now q n (writes_on a.moment.now m.now (holds_at c d moves begins run a.moment) on q n has) lacks)
      ]
  in_time (Collect i) (Collect j) (m, answers, asks) =
      let a = answers.0 in
      let b = asks.0 in
      elim (cases_lt i j) as (λ _. before (Collect i) (Collect j)) [
        | inl less ↦ inl less
        | inr no_less ↦
            let back = led j i b a asks.1 answers.1 no_less in
            let on = answered_later c d moves begins run a.moment m a.node a.x a.y a.view a.apart answers.2 in
            absurd (never_ahead c d moves begins run b.moment m b.node b.s b.r b.view (led_on b.moment.now a.moment.now m.now back on) b.first asks.2)
      ]

  total : (o p : Operation) → (o ≡ p) ⊎ (before o p ⊎ before p o)
  total o p = elim (lex_total (key o) (key p)) as (λ _. (o ≡ p) ⊎ (before o p ⊎ before p o)) [
    | inl is ↦ inl (keys_tell o p is)
    | inr apart ↦ inr apart
  ]

  pub linearized : (key : Operation → List ℕ) × IsLinearization c moves d collects (λ o p. IsBelow (key o) (key p))
  linearized = (
    key,
    record {
      irreflexive = λ o. lex_irreflexive (key o);
      transitive = λ o p q. lex_transitive (key o) (key p) (key q);
      total = total;
      numbered = numbered;
      in_time = in_time;
      shows = λ i a at q n. (shows_before i a at q n, before_shown i a at q n);
      writes = λ i a at q n x has. all_written c d moves begins run a.view
          (among_sent (record { from = a.node; output = output.Reply a.x a.y (answer.Seen a.view) }) a.second refl) q n x has;
    },
  )
