-- What a round is of the line that it comes from.
--     one_at_a_time, one_round    with a share of 1 it is the first ask, and the others wait on
--     either_has                  a session has an ask in the line where it has one in the round or behind it
--     apart_still                 no two asks of round and line are of one session, where no two of the line were
--     same_kinds                  of each kind, round and line are what the line was, in order
--     written_still, none_write   what writes keeps its order, so the value at last is the same;  what reads doesn't write
--     count_still                 there are as many
--     round_.., .._behind         the same of a line, with its first round in front of what is left
--     round_fair, at_more         an ask that waits begins, or fewer stand before it;  one more behind it leaves its place
use Rattle.std.specs.Prelude.{◌≡◌, ℕ, ◌+◌, ◌-◌, ◌<◌, ◌≤◌, ◌⊎◌, zero, suc, length, Bool, true, false, not, IsTrue, ◌||◌, nat_eq, List, [], ◌∷◌, ◌++◌}
use Rattle.std.specs.Prelude.{if◌then◌else◌, refl}
use Rattle.std.proofs.Common.{sym, ap, arith, inl, inr, ◌∙◌}
use Rattle.std.specs.List.{AllByRecursion}
use Rattle.std.proofs.lemmas.Bool.{or_parts, eqb-false, ne_eqb}
use Rattle.cc_views.specs.declared.value.Value.{Value}
use Rattle.cc_ops.specs.declared.pending_operation.Asked.{Asked}
use Rattle.cc_ops.specs.Commands.{is_writing, written}
use Rattle.cc_ops.specs.Rounds.{is_of, picked, spared, first_round, line_behind, of_kind, IsAt, ComesOn}
use Rattle.cc_ops.specs.WaitingAsks.{has_session, AreApart, writes_by, written_by}
use Rattle.cc_ops.specs.WaitingAskLaws.{reading_leaves, all_within, written_within}
use Rattle.cc_views.specs.NatSets.{IsWithin, contains}

pub one_at_a_time : (a : Asked) (line : List Asked) → (first_round 1 (a ∷ line) ≡ a ∷ []) × (line_behind 1 (a ∷ line) ≡ line)
one_at_a_time a line = (refl, refl)

pub one_round : (line : List Asked) → first_round 1 line ++ line_behind 1 line ≡ line
one_round [] = refl
one_round (a ∷ line) = refl

-- ---- sessions

or_swap : (a b c : Bool) → (a || (b || c)) ≡ (b || (a || c))
or_swap true true c = refl
or_swap true false c = refl
or_swap false b c = refl

or_join : (a b c : Bool) → (a || (b || c)) ≡ ((a || b) || c)
or_join true b c = refl
or_join false b c = refl

pub either_has : (s : ℕ) (kind : Bool) (n : ℕ) (asks : List Asked) → has_session s asks
    ≡ (has_session s (picked kind n asks) || has_session s (spared kind n asks))
either_has s kind zero asks = refl
either_has s kind (suc n) [] = refl
either_has s kind (suc n) (a ∷ asks) =
    elim (is_of kind a)
    as (λ b. (nat_eq s a.session || has_session s asks)
    ≡ (has_session s (if b then a ∷ picked kind n asks else picked kind (suc n) asks) || has_session s
    (if b then spared kind n asks else a ∷ spared kind (suc n) asks))) [
      | true ↦ ap (λ (h : Bool). nat_eq s a.session || h) (either_has s kind n asks) ∙ or_join (nat_eq s a.session) (has_session s (picked kind n asks))
          (has_session s (spared kind n asks))
      | false ↦ ap (λ (h : Bool). nat_eq s a.session || h) (either_has s kind (suc n) asks)
          ∙ or_swap (nat_eq s a.session) (has_session s (picked kind (suc n) asks)) (has_session s (spared kind (suc n) asks))
    ]

pub has_both : (s : ℕ) (xs ys : List Asked) → has_session s (xs ++ ys) ≡ (has_session s xs || has_session s ys)
has_both s [] ys = refl
has_both s (a ∷ xs) ys = ap (λ (h : Bool). nat_eq s a.session || h) (has_both s xs ys) ∙ or_join (nat_eq s a.session) (has_session s xs) (has_session s ys)

pub has_still : (s : ℕ) (kind : Bool) (n : ℕ) (asks : List Asked) → has_session s (picked kind n asks ++ spared kind n asks) ≡ has_session s asks
has_still s kind n asks = has_both s (picked kind n asks) (spared kind n asks) ∙ sym (either_has s kind n asks)

same_tests : (x y : ℕ) → nat_eq x y ≡ false → nat_eq y x ≡ false
same_tests x y e = let apart : x ≡ y → ⊥ = eqb-false x y e in ne_eqb y x (λ t. apart (sym t))

both_false : (a b : Bool) → a ≡ false → b ≡ false → (a || b) ≡ false
both_false true b e f = cc
both_false false b e f = f

-- an ask of a session that none of the others has may stand anywhere
apart_between : (xs ys : List Asked) (a : Asked) → has_session a.session (xs ++ ys) ≡ false → AreApart (xs ++ ys) → AreApart (xs ++ a ∷ ys)
apart_between [] ys a none h = (none, h)
apart_between (x ∷ xs) ys a none h =
    let parts = or_parts _ _ none in
    let other : nat_eq x.session a.session ≡ false = same_tests a.session x.session parts.0 in
    let here = or_parts _ _ (sym (has_both x.session xs ys) ∙ h.0) in (
      has_both x.session xs (a ∷ ys) ∙ both_false (has_session x.session xs) (nat_eq x.session a.session || has_session x.session ys) here.0
          (both_false (nat_eq x.session a.session) (has_session x.session ys) other here.1),
      apart_between xs ys a parts.1 h.1,
    )

pub apart_still : (kind : Bool) (n : ℕ) (asks : List Asked) → AreApart asks → AreApart (picked kind n asks ++ spared kind n asks)
apart_still kind zero asks h = h
apart_still kind (suc n) [] h = h
apart_still kind (suc n) (a ∷ asks) h =
    elim (is_of kind a)
    as (λ b. AreApart ((if b then a ∷ picked kind n asks else picked kind (suc n) asks) ++ (if b then spared kind n asks else a ∷ spared kind (suc n) asks))) [
      | true ↦ (has_still a.session kind n asks ∙ h.0, apart_still kind n asks h.1)
      | false ↦ apart_between (picked kind (suc n) asks) (spared kind (suc n) asks) a
          (has_still a.session kind (suc n) asks ∙ h.0) (apart_still kind (suc n) asks h.1)
    ]

-- ---- order within a kind

pub kind_both : (kind : Bool) (xs ys : List Asked) → of_kind kind (xs ++ ys) ≡ of_kind kind xs ++ of_kind kind ys
kind_both kind [] ys = refl
kind_both kind (a ∷ xs) ys =
    elim (is_of kind a)
    as (λ b. (if b then a ∷ of_kind kind (xs ++ ys) else of_kind kind (xs ++ ys)) ≡ (if b then a ∷ of_kind kind xs else of_kind kind xs) ++ of_kind kind ys) [
      | true ↦ ap (λ (l : List Asked). a ∷ l) (kind_both kind xs ys)
      | false ↦ kind_both kind xs ys
    ]

-- those that are picked are of the kind, so none of the other kind is
none_picked : (kind : Bool) (n : ℕ) (asks : List Asked) → of_kind (not kind) (picked kind n asks) ≡ []
none_picked kind zero asks = refl
none_picked kind (suc n) [] = refl
none_picked kind (suc n) (a ∷ asks) =
    elim (is_of kind a)
    as (λ b. is_of kind a ≡ b → of_kind (not kind) (if b then a ∷ picked kind n asks else picked kind (suc n) asks) ≡ []) [
      | true ↦ λ is. skips (is_of (not kind) a) a (of_kind (not kind) (picked kind n asks)) (other kind a is) ∙ none_picked kind n asks
      | false ↦ λ _. none_picked kind (suc n) asks
    ] refl
  where
    other : (kind : Bool) (a : Asked) → is_of kind a ≡ true → is_of (not kind) a ≡ false
    other true a is = ap not is
    other false a is = turned (is_writing a.command) is
      where
        turned : (b : Bool) → not b ≡ true → b ≡ false
        turned true e = cc
        turned false e = refl

    skips : (b : Bool) (a : Asked) (l : List Asked) → b ≡ false → (if b then a ∷ l else l) ≡ l
    skips true a l e = cc
    skips false a l e = refl

same_own : (kind : Bool) (n : ℕ) (asks : List Asked) → of_kind kind (picked kind n asks ++ spared kind n asks) ≡ of_kind kind asks
same_own kind zero asks = refl
same_own kind (suc n) [] = refl
same_own kind (suc n) (a ∷ asks) =
    elim (is_of kind a)
    as (λ b. is_of kind a ≡ b
    → of_kind kind ((if b then a ∷ picked kind n asks else picked kind (suc n) asks) ++ (if b then spared kind n asks else a ∷ spared kind (suc n) asks))
    ≡ (if b then a ∷ of_kind kind asks else of_kind kind asks)) [
      | true ↦ λ is. takes (is_of kind a) a (of_kind kind (picked kind n asks ++ spared kind n asks)) is ∙ ap (λ (l : List Asked). a ∷ l) (same_own kind n asks)
      | false ↦ λ is.
          kind_both kind (picked kind (suc n) asks) (a ∷ spared kind (suc n) asks)
          ∙ ap (λ (l : List Asked). of_kind kind (picked kind (suc n) asks) ++ l) (skips (is_of kind a) a (of_kind kind (spared kind (suc n) asks)) is)
          ∙ sym (kind_both kind (picked kind (suc n) asks) (spared kind (suc n) asks)) ∙ same_own kind (suc n) asks
    ] refl
  where
    takes : (b : Bool) (a : Asked) (l : List Asked) → b ≡ true → (if b then a ∷ l else l) ≡ a ∷ l
    takes true a l e = refl
    takes false a l e = cc

    skips : (b : Bool) (a : Asked) (l : List Asked) → b ≡ false → (if b then a ∷ l else l) ≡ l
    skips true a l e = cc
    skips false a l e = refl

-- of the other kind all stay, in their order
others_stay : (kind : Bool) (n : ℕ) (asks : List Asked) → of_kind (not kind) (spared kind n asks) ≡ of_kind (not kind) asks
others_stay kind zero asks = refl
others_stay kind (suc n) [] = refl
others_stay kind (suc n) (a ∷ asks) =
    elim (is_of kind a)
    as (λ b. is_of kind a ≡ b
    → of_kind (not kind) (if b then spared kind n asks else a ∷ spared kind (suc n) asks)
    ≡ (if is_of (not kind) a then a ∷ of_kind (not kind) asks else of_kind (not kind) asks)) [
      | true ↦ λ is. others_stay kind n asks ∙ sym (skips (is_of (not kind) a) a (of_kind (not kind) asks) (other kind a is))
      | false ↦ λ _. ap (λ (l : List Asked). if is_of (not kind) a then a ∷ l else l) (others_stay kind (suc n) asks)
    ] refl
  where
    turned : (b : Bool) → not b ≡ true → b ≡ false
    turned true e = cc
    turned false e = refl

    other : (kind : Bool) (a : Asked) → is_of kind a ≡ true → is_of (not kind) a ≡ false
    other true a is = ap not is
    other false a is = turned (is_writing a.command) is

    skips : (b : Bool) (a : Asked) (l : List Asked) → b ≡ false → (if b then a ∷ l else l) ≡ l
    skips true a l e = cc
    skips false a l e = refl

same_other : (kind : Bool) (n : ℕ) (asks : List Asked) → of_kind (not kind) (picked kind n asks ++ spared kind n asks) ≡ of_kind (not kind) asks
same_other kind n asks =
    kind_both (not kind) (picked kind n asks) (spared kind n asks)
    ∙ ap (λ (l : List Asked). l ++ of_kind (not kind) (spared kind n asks)) (none_picked kind n asks)
    ∙ others_stay kind n asks

pub same_kinds : (of kind : Bool) (n : ℕ) (asks : List Asked) → of_kind of (picked kind n asks ++ spared kind n asks) ≡ of_kind of asks
same_kinds true true n asks = same_own true n asks
same_kinds true false n asks = same_other false n asks
same_kinds false true n asks = same_other true n asks
same_kinds false false n asks = same_own false n asks

-- ---- what they write

pub writers_write : (asks : List Asked) (v : Value) → written_by asks v ≡ written_by (of_kind true asks) v
writers_write [] v = refl
writers_write (a ∷ asks) v =
    elim (is_writing a.command)
    as (λ b. is_writing a.command ≡ b → written_by asks (written a.command v) ≡ written_by (if b then a ∷ of_kind true asks else of_kind true asks) v) [
      | true ↦ λ _. writers_write asks (written a.command v)
      | false ↦ λ reads. ap (written_by asks) (sym (reading_leaves a.command v reads)) ∙ writers_write asks v
    ] refl

pub written_still : (kind : Bool) (n : ℕ) (asks : List Asked) (v : Value) → written_by (picked kind n asks ++ spared kind n asks) v ≡ written_by asks v
written_still kind n asks v =
    writers_write (picked kind n asks ++ spared kind n asks) v
    ∙ ap (λ (l : List Asked). written_by l v) (same_kinds true kind n asks)
    ∙ sym (writers_write asks v)

pub round_written : (share : ℕ) (line : List Asked) (v : Value) → written_by (first_round share line ++ line_behind share line) v ≡ written_by line v
round_written zero line v = refl
round_written (suc n) [] v = refl
round_written (suc n) (a ∷ line) v = written_still (is_writing a.command) n line (written a.command v)

-- how often they write
pub writers_count : (asks : List Asked) → writes_by asks ≡ writes_by (of_kind true asks)
writers_count [] = refl
writers_count (a ∷ asks) =
    elim (is_writing a.command)
    as (λ b. is_writing a.command ≡ b → (if b then 1 else 0) + writes_by asks ≡ writes_by (if b then a ∷ of_kind true asks else of_kind true asks)) [
      | true ↦ λ is. ap (λ (k : ℕ). 1 + k) (writers_count asks) ∙ ap (λ (b : Bool). (if b then 1 else 0) + writes_by (of_kind true asks)) (sym is)
      | false ↦ λ _. omega (arith, writers_count asks)
    ] refl

-- those that are picked among those that read don't write
pub none_write : (n : ℕ) (asks : List Asked) → writes_by (picked false n asks) ≡ 0
none_write n asks = writers_count (picked false n asks) ∙ ap writes_by (none_picked false n asks)

-- ---- how many

pub count_still : (kind : Bool) (n : ℕ) (asks : List Asked) → length (picked kind n asks) + length (spared kind n asks) ≡ length asks
count_still kind zero asks = omega arith
count_still kind (suc n) [] = refl
count_still kind (suc n) (a ∷ asks) =
    elim (is_of kind a)
    as (λ b. length (if b then a ∷ picked kind n asks else picked kind (suc n) asks) + length (if b then spared kind n asks else a ∷ spared kind (suc n)
    asks) ≡ length (a ∷ asks)) [
      | true ↦ omega (arith, count_still kind n asks)
      | false ↦ omega (arith, count_still kind (suc n) asks)
    ]

-- ---- a round of a line that isn't empty, where the share is known to be one at least

pub round_is : (share : ℕ) (a : Asked) (line : List Asked) → 1 ≤ share → first_round share (a ∷ line) ≡ a ∷ picked (is_writing a.command) (share - 1) line
round_is zero a line some = absurd (omega (arith, some))
round_is (suc n) a line some = let same : n ≡ suc n - 1 = omega arith in ap (λ (k : ℕ). a ∷ picked (is_writing a.command) k line) same

pub behind_is : (share : ℕ) (a : Asked) (line : List Asked) → 1 ≤ share → line_behind share (a ∷ line) ≡ spared (is_writing a.command) (share - 1) line
behind_is zero a line some = absurd (omega (arith, some))
behind_is (suc n) a line some = let same : n ≡ suc n - 1 = omega arith in ap (λ (k : ℕ). spared (is_writing a.command) k line) same

pub no_round : (share : ℕ) → first_round share [] ≡ []
no_round zero = refl
no_round (suc n) = refl

-- one that begins with an ask that reads writes nothing
pub reads_none : (share : ℕ) (a : Asked) (line : List Asked) → is_writing a.command ≡ false → writes_by (first_round share (a ∷ line)) ≡ 0
reads_none zero a line reads = refl
reads_none (suc n) a line reads =
    let none : writes_by (picked (is_writing a.command) n line) ≡ 0 = ap (λ (b : Bool). writes_by (picked b n line)) reads ∙ none_write n line in
    let count : writes_by (a ∷ picked (is_writing a.command) n line) ≡ 0 + writes_by (picked (is_writing a.command) n line) =
    ap (λ (b : Bool). (if b then 1 else 0) + writes_by (picked (is_writing a.command) n line)) reads in
    omega (arith, none, count)

-- no more begin than the share
pub picked_few : (kind : Bool) (n : ℕ) (asks : List Asked) → length (picked kind n asks) ≤ n
picked_few kind zero asks = omega arith
picked_few kind (suc n) [] = omega arith
picked_few kind (suc n) (a ∷ asks) =
    elim (is_of kind a) as (λ b. length (if b then a ∷ picked kind n asks else picked kind (suc n) asks) ≤ suc n) [
      | true ↦ omega (arith, picked_few kind n asks)
      | false ↦ picked_few kind (suc n) asks
    ]

pub first_few : (share : ℕ) (line : List Asked) → length (first_round share line) ≤ share
first_few zero line = omega arith
first_few (suc n) [] = omega arith
first_few (suc n) (a ∷ line) = omega (arith, picked_few (is_writing a.command) n line)

-- what is left of them puts no more into a set than all of them
pub spared_within : (kind : Bool) (n : ℕ) (asks : List Asked) (v : Value) → IsWithin (written_by (spared kind n asks) v).set (written_by asks v).set
spared_within kind zero asks v q h = h
spared_within kind (suc n) [] v q h = h
spared_within kind (suc n) (a ∷ asks) v q h =
    elim (is_of kind a)
    as (λ b. IsTrue (contains (written_by (if b then spared kind n asks else a ∷ spared kind (suc n) asks) v).set q)
    → IsTrue (contains (written_by asks (written a.command v)).set q)) [
      | true ↦ λ there. spared_within kind n asks (written a.command v) q
          (all_within (spared kind n asks) v (written a.command v) (written_within a.command v) q there)
      | false ↦ λ there. spared_within kind (suc n) asks (written a.command v) q there
    ] h

pub behind_within : (share : ℕ) (line : List Asked) (v : Value) → IsWithin (written_by (line_behind share line) v).set (written_by line v).set
behind_within zero line v q h = h
behind_within (suc n) [] v q h = h
behind_within (suc n) (a ∷ line) v q h =
    spared_within (is_writing a.command) n line (written a.command v) q
    (all_within (spared (is_writing a.command) n line) v (written a.command v) (written_within a.command v) q h)

-- ---- a line, with its first round in front of what is left

pub round_has : (s share : ℕ) (line : List Asked) → has_session s (first_round share line ++ line_behind share line) ≡ has_session s line
round_has s zero line = refl
round_has s (suc n) [] = refl
round_has s (suc n) (a ∷ line) = ap (λ (b : Bool). nat_eq s a.session || b) (has_still s (is_writing a.command) n line)

pub round_apart : (share : ℕ) (line : List Asked) → AreApart line → AreApart (first_round share line ++ line_behind share line)
round_apart zero line h = h
round_apart (suc n) [] h = h
round_apart (suc n) (a ∷ line) h = (has_still a.session (is_writing a.command) n line ∙ h.0, apart_still (is_writing a.command) n line h.1)

pub round_kinds : (of : Bool) (share : ℕ) (line : List Asked) → of_kind of (first_round share line ++ line_behind share line) ≡ of_kind of line
round_kinds of zero line = refl
round_kinds of (suc n) [] = refl
round_kinds of (suc n) (a ∷ line) = ap (λ (l : List Asked). if is_of of a then a ∷ l else l) (same_kinds of (is_writing a.command) n line)

pub behind_few : (share : ℕ) (line : List Asked) → length (line_behind share line) ≤ length line
behind_few zero line = omega arith
behind_few (suc n) [] = omega arith
behind_few (suc n) (a ∷ line) = omega (arith, count_still (is_writing a.command) n line)

module _ (P : Asked → Type 0) where
  each_picked : (kind : Bool) (n : ℕ) (asks : List Asked) → AllByRecursion P asks → AllByRecursion P (picked kind n asks)
  each_picked kind zero asks h = tt
  each_picked kind (suc n) [] h = tt
  each_picked kind (suc n) (a ∷ asks) h =
      elim (is_of kind a) as (λ b. AllByRecursion P (if b then a ∷ picked kind n asks else picked kind (suc n) asks)) [
        | true ↦ (h.0, each_picked kind n asks h.1)
        | false ↦ each_picked kind (suc n) asks h.1
      ]

  each_spared : (kind : Bool) (n : ℕ) (asks : List Asked) → AllByRecursion P asks → AllByRecursion P (spared kind n asks)
  each_spared kind zero asks h = h
  each_spared kind (suc n) [] h = tt
  each_spared kind (suc n) (a ∷ asks) h =
      elim (is_of kind a) as (λ b. AllByRecursion P (if b then spared kind n asks else a ∷ spared kind (suc n) asks)) [
        | true ↦ each_spared kind n asks h.1
        | false ↦ (h.0, each_spared kind (suc n) asks h.1)
      ]

  pub each_first : (share : ℕ) (line : List Asked) → AllByRecursion P line → AllByRecursion P (first_round share line)
  each_first zero line h = tt
  each_first (suc n) [] h = tt
  each_first (suc n) (a ∷ line) h = (h.0, each_picked (is_writing a.command) n line h.1)

  pub each_behind : (share : ℕ) (line : List Asked) → AllByRecursion P line → AllByRecursion P (line_behind share line)
  each_behind zero line h = h
  each_behind (suc n) [] h = tt
  each_behind (suc n) (a ∷ line) h = each_spared (is_writing a.command) n line h.1

-- those that are picked are of the kind
pub picked_alike : (kind : Bool) (n : ℕ) (asks : List Asked) → AllByRecursion (λ b. is_writing b.command ≡ kind) (picked kind n asks)
picked_alike kind zero asks = tt
picked_alike kind (suc n) [] = tt
picked_alike kind (suc n) (a ∷ asks) =
    elim (is_of kind a) as (λ b. is_of kind a ≡ b → AllByRecursion (λ b. is_writing b.command
    ≡ kind) (if b then a ∷ picked kind n asks else picked kind (suc n) asks)) [
      | true ↦ λ is. (of_its_kind kind a is, picked_alike kind n asks)
      | false ↦ λ _. picked_alike kind (suc n) asks
    ] refl
  where
    turned : (b : Bool) → not b ≡ true → b ≡ false
    turned true e = cc
    turned false e = refl

    of_its_kind : (kind : Bool) (a : Asked) → is_of kind a ≡ true → is_writing a.command ≡ kind
    of_its_kind true a is = is
    of_its_kind false a is = turned (is_writing a.command) is

-- ---- places

-- it is picked, or no more stand before it than did
abbrev IsKeptAt : ℕ → Asked → List Asked → List Asked → Type 0
IsKeptAt n asked round rest = ((j : ℕ) × IsAt j asked round) ⊎ ((j : ℕ) × (j ≤ n) × IsAt j asked rest)

round_more : (n : ℕ) (asked a : Asked) (round rest : List Asked) → IsKeptAt n asked round rest → IsKeptAt (suc n) asked (a ∷ round) rest
round_more n asked a round rest (inl h) = inl (suc h.0, h.1)
round_more n asked a round rest (inr h) = let more : h.0 ≤ suc n = omega (arith, h.1) in inr (h.0, more, h.2)

rest_more : (n : ℕ) (asked a : Asked) (round rest : List Asked) → IsKeptAt n asked round rest → IsKeptAt (suc n) asked round (a ∷ rest)
rest_more n asked a round rest (inl h) = inl h
rest_more n asked a round rest (inr h) = let more : suc h.0 ≤ suc n = omega (arith, h.1) in inr (suc h.0, more, h.2)

place_kept : (kind : Bool) (most : ℕ) (asks : List Asked) (n : ℕ) (asked : Asked) → IsAt n asked asks
    → IsKeptAt n asked (picked kind most asks) (spared kind most asks)
place_kept kind zero asks n asked h = let same : n ≤ n = omega arith in inr (n, same, h)
place_kept kind (suc m) [] n asked h = absurd h
place_kept kind (suc m) (a ∷ asks) zero asked h =
    let none : 0 ≤ 0 = omega arith in
    elim (is_of kind a)
    as (λ b. IsKeptAt 0 asked (if b then a ∷ picked kind m asks else picked kind (suc m) asks)
    (if b then spared kind m asks else a ∷ spared kind (suc m) asks)) [
      | true ↦ inl (0, h)
      | false ↦ inr (0, none, h)
    ]
place_kept kind (suc m) (a ∷ asks) (suc n) asked h =
    elim (is_of kind a)
    as (λ b. IsKeptAt (suc n) asked (if b then a ∷ picked kind m asks else picked kind (suc m) asks)
    (if b then spared kind m asks else a ∷ spared kind (suc m) asks)) [
      | true ↦ round_more n asked a (picked kind m asks) (spared kind m asks) (place_kept kind m asks n asked h)
      | false ↦ rest_more n asked a (picked kind (suc m) asks) (spared kind (suc m) asks) (place_kept kind (suc m) asks n asked h)
    ]

behind_first : (n : ℕ) (asked a : Asked) (round rest : List Asked) → IsKeptAt n asked round rest → ComesOn (suc n) asked (a ∷ round) rest
behind_first n asked a round rest (inl h) = inl (suc h.0, h.1)
behind_first n asked a round rest (inr h) = let fewer : h.0 < suc n = omega (arith, h.1) in inr (h.0, fewer, h.2)

pub round_fair : (share : ℕ) (line : List Asked) (n : ℕ) (asked : Asked) → 1 ≤ share → IsAt n asked line
    → ComesOn n asked (first_round share line) (line_behind share line)
round_fair zero line n asked some h = absurd (omega (arith, some))
round_fair (suc m) [] n asked some h = absurd h
round_fair (suc m) (a ∷ line) zero asked some h = inl (0, h)
round_fair (suc m) (a ∷ line) (suc n) asked some h =
    behind_first n asked a (picked (is_writing a.command) m line) (spared (is_writing a.command) m line) (place_kept (is_writing a.command) m line n asked h)

pub at_more : (line more : List Asked) (n : ℕ) (asked : Asked) → IsAt n asked line → IsAt n asked (line ++ more)
at_more [] more n asked h = absurd h
at_more (a ∷ line) more zero asked h = h
at_more (a ∷ line) more (suc n) asked h = at_more line more n asked h
