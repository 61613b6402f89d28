-- What the own value and the sessions are along asks that wait.
--     reading_leaves            a reading command leaves the own value
--     written_last              the own value once one more has begun behind them
--     written_fits, fits_written  a command that finds room leaves the own set within its limit, and one that does found room
--     first_room, room_behind, own_room   where all that wait find room, so does the first of them, so do the others, and what is there
--     none_last, apart_last     none of them is of a session, and no two are of one, with one more behind them
--     writes_both, written_both   how often they write, and what they make of the own value, with others behind them
--     writes_most               they write no more often than there are of them
--     no_writes                 those that never write leave the own value
use Rattle.std.proofs.Common.{◌≡◌, ℕ, ◌+◌, ◌≤◌, Bool, true, false, cond, not, ◌&&◌, ◌||◌, nat_eq, List, [], ◌∷◌, ◌++◌, length, refl, sym, ap, ◌∙◌}
use Rattle.std.proofs.Common.{inl, inr, arith}
use Rattle.std.specs.Prelude.{◌==◌, if◌then◌else◌}
use Rattle.std.proofs.lemmas.Bool.{cond_both, and_cases, or_parts, or_left, eq-eqb, eqb-false, ne_eqb}
use Rattle.cc_views.specs.Limits.{set_limit}
use Rattle.cc_views.specs.NatSets as set
use Rattle.cc_views.specs.NatSets.{IsWithin, contains-insert, len_within}
use Rattle.cc_views.specs.MapLaws.{within_insert, insert_within}
use Rattle.cc_views.specs.declared.value.Value.{Value}
use Rattle.cc_messages.specs.declared.command.Command.{Command}
use Rattle.cc_messages.specs.declared.command.Command.TheVariants as command
use Rattle.cc_ops.specs.declared.pending_operation.Asked.{Asked}
use Rattle.cc_ops.specs.Commands.{is_writing, written, finds_no_room}
use Rattle.cc_ops.specs.WaitingAsks.{has_session, AreApart, writes_by, written_by}

-- a reading command leaves the own value
pub reading_leaves : (k : Command) (mine : Value) → is_writing k ≡ false → mine ≡ written k mine
reading_leaves (command.Store text) mine e = cc
reading_leaves command.Collect mine e = refl
reading_leaves (command.WriteMax x) mine e = cc
reading_leaves command.ReadMax mine e = refl
reading_leaves command.SetFlag mine e = cc
reading_leaves command.ReadFlag mine e = refl
reading_leaves (command.AddMember x) mine e = cc
reading_leaves command.ReadSet mine e = refl

pub written_last : (asks : List Asked) (a : Asked) (mine : Value) → written_by (asks ++ a ∷ []) mine ≡ written a.command (written_by asks mine)
written_last [] a mine = refl
written_last (b ∷ asks) a mine = written_last asks a (written b.command mine)

-- ---- the own set

more_members : (s k : ℕ) (b : Bool) → ((s == set_limit) && not b) ≡ false → s ≤ set_limit → k ≡ cond b s (s + 1) → k ≤ set_limit
more_members s k true h a e = omega (arith, a, e)
more_members s k false h a e =
    elim (and_cases (s == set_limit) true h) as (λ _. k ≤ set_limit) [
      | inl t ↦ let apart : s ≡ set_limit → ⊥ = eqb-false s set_limit t in omega (arith, apart, a, e)
      | inr t ↦ cc
    ]

pub written_fits : (k : Command) (mine : Value) → finds_no_room mine k ≡ false → set.len mine.set ≤ set_limit → set.len (written k mine).set ≤ set_limit
written_fits (command.AddMember x) mine e h =
    more_members (set.len mine.set) (set.len (set.insert mine.set x)) (set.contains mine.set x) e h (set.len-insert mine.set x)
written_fits _ mine e h = h

room_was_there : (s k : ℕ) (b : Bool) → k ≡ cond b s (s + 1) → k ≤ set_limit → ((s == set_limit) && not b) ≡ false
room_was_there s k true e h = elim (s == set_limit) as (λ b. (b && false) ≡ false) [ true ↦ refl | false ↦ refl ]
room_was_there s k false e h = ap (λ b. b && true) (ne_eqb s set_limit (omega (arith, e, h)))

pub fits_written : (k : Command) (mine : Value) → set.len (written k mine).set ≤ set_limit → finds_no_room mine k ≡ false
fits_written (command.AddMember x) mine h = room_was_there (set.len mine.set) (set.len (set.insert mine.set x)) (set.contains mine.set x)
    (set.len-insert mine.set x) h
fits_written _ mine h = refl

-- what was put in stays, whatever else is

more_within : (k : Command) (mine more : Value) → IsWithin mine.set more.set → IsWithin (written k mine).set (written k more).set
more_within (command.AddMember x) mine more h =
    insert_within mine.set (set.insert more.set x) x tt (λ q there. within_insert more.set x tt q (h q there))
    (contains-insert more.set x x ∙ or_left _ _ (eq-eqb x x refl))
more_within _ mine more h = h

pub written_within : (k : Command) (mine : Value) → IsWithin mine.set (written k mine).set
written_within (command.AddMember x) mine q h = within_insert mine.set x tt q h
written_within _ mine q h = h

pub all_within : (asks : List Asked) (mine more : Value) → IsWithin mine.set more.set → IsWithin (written_by asks mine).set (written_by asks more).set
all_within [] mine more h = h
all_within (a ∷ asks) mine more h = all_within asks (written a.command mine) (written a.command more) (more_within a.command mine more h)

all_grow : (asks : List Asked) (mine : Value) → IsWithin mine.set (written_by asks mine).set
all_grow [] mine q h = h
all_grow (a ∷ asks) mine q h = all_grow asks (written a.command mine) q (written_within a.command mine q h)

-- where all that wait find room, so does the first of them
pub first_room : (a : Asked) (asks : List Asked) (mine : Value) → set.len (written_by (a ∷ asks) mine).set ≤ set_limit → finds_no_room mine a.command ≡ false
first_room a asks mine h =
    let w = written a.command mine in
    let more : set.len w.set ≤ set.len (written_by asks w).set = len_within w.set (written_by asks w).set (all_grow asks w) in
    fits_written a.command mine (omega (arith, more, h))

-- so they do without the first one
pub room_behind : (a : Asked) (asks : List Asked) (mine : Value) → set.len (written_by (a ∷ asks) mine).set ≤ set_limit
    → set.len (written_by asks mine).set ≤ set_limit
room_behind a asks mine h =
    let w = written a.command mine in
    let more : set.len (written_by asks mine).set ≤ set.len (written_by asks w).set =
    len_within (written_by asks mine).set (written_by asks w).set (all_within asks mine w (written_within a.command mine)) in
    omega (arith, more, h)

-- the own set has its room already
pub own_room : (asks : List Asked) (mine : Value) → set.len (written_by asks mine).set ≤ set_limit → set.len mine.set ≤ set_limit
own_room asks mine h =
    let more : set.len mine.set ≤ set.len (written_by asks mine).set = len_within mine.set (written_by asks mine).set (all_grow asks mine) in
    omega (arith, more, h)

-- ---- sessions

same_tests : (x y : ℕ) → nat_eq x y ≡ false → nat_eq y x ≡ false
same_tests x y e = let apart : x ≡ y → ⊥ = eqb-false x y e in ne_eqb y x (λ t. apart (sym t))

both_false : (a b : Bool) → a ≡ false → b ≡ false → (a || b) ≡ false
both_false true b e f = cc
both_false false b e f = f

pub none_last : (s : ℕ) (asks : List Asked) (a : Asked) → has_session s asks ≡ false → nat_eq s a.session ≡ false → has_session s (asks ++ a ∷ []) ≡ false
none_last s [] a h e = both_false (nat_eq s a.session) false e refl
none_last s (b ∷ asks) a h e = let parts = or_parts _ _ h in both_false (nat_eq s b.session) (has_session s (asks ++ a ∷ [])) parts.0
    (none_last s asks a parts.1 e)

pub apart_last : (asks : List Asked) (a : Asked) → AreApart asks → has_session a.session asks ≡ false → AreApart (asks ++ a ∷ [])
apart_last [] a h e = (refl, tt)
apart_last (b ∷ asks) a h e =
    let parts = or_parts _ _ e in
    (none_last b.session asks a h.0 (same_tests a.session b.session parts.0), apart_last asks a h.1 parts.1)

-- ---- how often they write

pub writes_both : (asks more : List Asked) → writes_by (asks ++ more) ≡ writes_by asks + writes_by more
writes_both [] more = omega arith
writes_both (a ∷ asks) more = let rest : writes_by (asks ++ more) ≡ writes_by asks + writes_by more = writes_both asks more in omega (arith, rest)

pub writes_most : (asks : List Asked) → writes_by asks ≤ length asks
writes_most [] = omega arith
writes_most (a ∷ asks) =
    let rest : writes_by asks ≤ length asks = writes_most asks in
    cond_both (is_writing a.command) 1 0 (λ n. n + writes_by asks ≤ length (a ∷ asks)) (λ _. omega (arith, rest)) (λ _. omega (arith, rest))

pub written_both : (asks more : List Asked) (mine : Value) → written_by (asks ++ more) mine ≡ written_by more (written_by asks mine)
written_both [] more mine = refl
written_both (a ∷ asks) more mine = written_both asks more (written a.command mine)

pub no_writes : (asks : List Asked) (mine : Value) → writes_by asks ≡ 0 → written_by asks mine ≡ mine
no_writes [] mine none = refl
no_writes (a ∷ asks) mine none =
    elim (is_writing a.command)
    as (λ b. is_writing a.command ≡ b → (if b then 1 else 0) + writes_by asks ≡ 0 → written_by asks (written a.command mine) ≡ mine) [
      | true ↦ λ _ some. absurd (omega (arith, some))
      | false ↦ λ reads more. ap (written_by asks) (sym (reading_leaves a.command mine reads)) ∙ no_writes asks mine (omega (arith, more))
    ] refl none
