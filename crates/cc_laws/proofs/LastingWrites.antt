-- What a command does to the own value that no later one undoes, and what readings of a view make of it.
--     IsStable, value_stays     what holds of a written value holds of each later one of the node
--     value_there               the value that a writing ask made
--     max_least, ..             what a reading of a view has, by its rows
use Rattle.std.proofs.Common.{◌≡◌, ℕ, ◌≤◌, zero, suc, true, false, List, [], ◌∷◌, ◌++◌, refl, sym, ap, subst, ◌∙◌, inl, inr, arith, Bool}
use Rattle.std.specs.Prelude.{Option, Some, IfSome, map, slice_get, if◌then◌else◌, ◌||◌}
use Rattle.std.specs.List.{AllByRecursion, list_any}
use Rattle.std.specs.FinMap as table
use Rattle.std.proofs.lemmas.Bool.{or_cases, or_left, or_right}
use Rattle.std.proofs.lemmas.Option.{same_Some}
use Rattle.cc_views.specs.MapLaws.{all_entries, each_entry}
use Rattle.cc_views.specs.NatSets as set
use Rattle.cc_views.specs.NatSets.{contains-insert, contains-union, contains-empty}
use Rattle.cc_views.specs.Rows.{Pair, ViewMap, row_of}
use Rattle.cc_views.specs.declared.value.Value.{Value}
use Rattle.cc_objects.specs.Objects.{greatest, union_all, max_of, flag_of, set_of}
use Rattle.cc_messages.specs.declared.command.Command.{Command}
use Rattle.cc_messages.specs.declared.command.Command.TheVariants as command
use Rattle.cc_ops.specs.declared.pending_operation.Asked.{Asked}
use Rattle.cc_ops.specs.Commands.{is_writing, written}
use Rattle.cc_ops.specs.WaitingAsks.{writes_by, written_by}
use Rattle.cc_laws.specs.Written.{values_of}
use Rattle.cc_laws.proofs.Written.{values_both, length-values, slice_get_seam}
use Rattle.cc_laws.proofs.Lists.{at_some, of_some}

abbrev pub IsStable : (Value → Type 0) → Type 0
IsStable P = (k : Command) (v : Value) → P v → P (written k v)

module _ (P : Value → Type 0) (stable : IsStable P) where
  first_stable : (asks : List Asked) (w : Value) → ((i : ℕ) (y : Value) → slice_get (values_of w asks) i ≡ Some y → P y) → (j : ℕ) (y : Value) → P w
      → slice_get (w ∷ values_of w asks) j ≡ Some y → P y
  first_stable asks w rest zero y h there = subst P (same_Some w y there) h
  first_stable asks w rest (suc i) y h there = rest i y there

  all_stable : (asks : List Asked) (mine : Value) → P mine → (j : ℕ) (y : Value) → slice_get (values_of mine asks) j ≡ Some y → P y
  all_stable [] mine h j y is = cc
  all_stable (a ∷ asks) mine h j y is =
      let w = written a.command mine in
      let now = stable a.command mine h in
      elim (is_writing a.command) as (λ b. slice_get (if b then w ∷ values_of w asks else values_of mine asks) j ≡ Some y → P y) [
        | true ↦ first_stable asks w (all_stable asks w now) j y now
        | false ↦ all_stable asks mine h j y
      ] is

  both_stay : (asks : List Asked) (w x y : Value) → P x
      → ((i j : ℕ) → slice_get (values_of w asks) i ≡ Some x → slice_get (values_of w asks) j ≡ Some y → i ≤ j → P y) → (i j : ℕ) → i ≤ j
      → slice_get (w ∷ values_of w asks) i ≡ Some x → slice_get (w ∷ values_of w asks) j ≡ Some y → P y
  both_stay asks w x y h rest zero zero le here there = subst P (same_Some x y (sym here ∙ there)) h
  both_stay asks w x y h rest zero (suc j) le here there = all_stable asks w (subst P (sym (same_Some w x here)) h) j y there
  both_stay asks w x y h rest (suc i) zero le here there = absurd (omega (arith, le))
  both_stay asks w x y h rest (suc i) (suc j) le here there = rest i j here there (omega (arith, le))

  pub value_stays : (asks : List Asked) (mine x y : Value) → P x → (i j : ℕ) → slice_get (values_of mine asks) i ≡ Some x
      → slice_get (values_of mine asks) j ≡ Some y → i ≤ j → P y
  value_stays [] mine x y h i j here there le = cc
  value_stays (a ∷ asks) mine x y h i j here there le =
      let w = written a.command mine in
      let at = λ (b : Bool). slice_get (if b then w ∷ values_of w asks else values_of mine asks) in
      elim (is_writing a.command) as (λ b. at b i ≡ Some x → at b j ≡ Some y → P y) [
        | true ↦ both_stay asks w x y h (value_stays asks w x y h) i j le
        | false ↦ λ first second. value_stays asks mine x y h i j first second le
      ] here there

-- the value that a writing ask made
pub value_there : (mine : Value) (xs ys : List Asked) (a : Asked) → is_writing a.command ≡ true
    → slice_get (values_of mine (xs ++ a ∷ ys)) (writes_by xs) ≡ Some (written a.command (written_by xs mine))
value_there mine xs ys a writes =
    let m = written_by xs mine in
    let w = written a.command m in
    let rest : values_of m (a ∷ ys) ≡ w ∷ values_of w ys = ap (λ b. if b then w ∷ values_of w ys else values_of m ys) writes in
    ap (λ l. slice_get l (writes_by xs)) (values_both mine xs (a ∷ ys) ∙ ap (λ l. values_of mine xs ++ l) rest)
    ∙ ap (slice_get (values_of mine xs ++ w ∷ values_of w ys)) (sym (length-values mine xs)) ∙ slice_get_seam (values_of mine xs) w (values_of w ys)

-- ---- what lasts

pub max_lasts : (n : ℕ) → IsStable (λ v. n ≤ v.max)
max_lasts n (command.WriteMax x) v h = omega (arith, h)
max_lasts n _ v h = h

pub flag_lasts : IsStable (λ v. v.flag ≡ true)
flag_lasts command.SetFlag v h = refl
flag_lasts _ v h = h

pub set_lasts : (n : ℕ) → IsStable (λ v. set.contains v.set n ≡ true)
set_lasts n (command.AddMember x) v h = contains-insert v.set x n ∙ or_right _ _ h
set_lasts n _ v h = h

-- ---- readings

-- what holds of each row of a view
abbrev at_each : ViewMap → (ℕ → Pair → Type 0) → Type 0
at_each v Q = (q : ℕ) (e : Pair) → table.get v q ≡ Some e → Q q e

from_entries_all : (v : ViewMap) (Q : ℕ → Pair → Type 0) → AllByRecursion (λ (e : ℕ × Pair). Q e.0 e.1) (table.entries v) → at_each v Q
from_entries_all v Q h q e there =
    at_some (Q q) (table.get v q) e there (subst (λ (o : Option Pair). IfSome o (Q q)) (sym (table.get-entries v q)) (each_entry Q (table.entries v) h q))

to_entries : (v : ViewMap) (Q : ℕ → Pair → Type 0) → at_each v Q → AllByRecursion (λ (e : ℕ × Pair). Q e.0 e.1) (table.entries v)
to_entries v Q h =
    all_entries Q (table.entries v) (table.entries_sorted v)
    (λ q. subst (λ (o : Option Pair). IfSome o (Q q)) (table.get-entries v q) (of_some (Q q) (table.get v q) (h q)))

max_bounds_all : (es : List (ℕ × Pair)) (n : ℕ) → greatest (map (λ row. row.value.max) (map row_of es)) ≤ n
    → AllByRecursion (λ (e : ℕ × Pair). e.1.1.max ≤ n) es
max_bounds_all [] n le = tt
max_bounds_all (e ∷ es) n le = (omega (arith, le), max_bounds_all es n (omega (arith, le)))

max_least_of : (es : List (ℕ × Pair)) (n : ℕ) → AllByRecursion (λ (e : ℕ × Pair). e.1.1.max ≤ n) es
    → greatest (map (λ row. row.value.max) (map row_of es)) ≤ n
max_least_of [] n h = omega arith
max_least_of (e ∷ es) n h = omega (arith, h.0, max_least_of es n h.1)

-- the greatest maximum is at least each row's, and no more than what all of them are
pub max_bounds : (v : ViewMap) → at_each v (λ q e. e.1.max ≤ max_of v)
max_bounds v = from_entries_all v (λ q e. e.1.max ≤ max_of v) (max_bounds_all (table.entries v) (max_of v) (omega arith))

pub max_least : (v : ViewMap) (n : ℕ) → at_each v (λ q e. e.1.max ≤ n) → max_of v ≤ n
max_least v n h = max_least_of (table.entries v) n (to_entries v (λ q e. e.1.max ≤ n) h)

-- whether some row has it
abbrev has_some : (Value → Bool) → List (ℕ × Pair) → Bool
has_some test es = list_any (λ row. test row.value) (map row_of es)

each_some : (test : Value → Bool) (es : List (ℕ × Pair)) (P : Type 0) → (has_some test es ≡ true → P)
    → AllByRecursion (λ (e : ℕ × Pair). test e.1.1 ≡ true → P) es
each_some test [] P f = tt
each_some test (e ∷ es) P f = (λ is. f (or_left _ _ is), each_some test es P (λ is. f (or_right _ _ is)))

from_some : (test : Value → Bool) (es : List (ℕ × Pair)) (P : Type 0) → AllByRecursion (λ (e : ℕ × Pair). test e.1.1 ≡ true → P) es
    → has_some test es ≡ true → P
from_some test [] P h is = cc
from_some test (e ∷ es) P h is = elim (or_cases (test e.1.1) (has_some test es) is) as (λ _. P) [
  | inl first ↦ h.0 first
  | inr rest ↦ from_some test es P h.1 rest
]

pub flag_there : (v : ViewMap) → at_each v (λ q e. e.1.flag ≡ true → flag_of v ≡ true)
flag_there v =
    from_entries_all v (λ q e. e.1.flag ≡ true → flag_of v ≡ true) (each_some (λ x. x.flag) (table.entries v) (flag_of v ≡ true) (λ is. is))

pub flag_from : (v : ViewMap) (P : Type 0) → at_each v (λ q e. e.1.flag ≡ true → P) → flag_of v ≡ true → P
flag_from v P h is = from_some (λ x. x.flag) (table.entries v) P (to_entries v (λ q e. e.1.flag ≡ true → P) h) is

-- an id is in the union where it is in the set of some row
in_union : (es : List (ℕ × Pair)) (n : ℕ) → set.contains (union_all (map (λ row. row.value.set) (map row_of es))) n ≡ has_some (λ x. set.contains x.set n) es
in_union [] n = contains-empty n
in_union (e ∷ es) n =
    contains-union e.1.1.set (union_all (map (λ row. row.value.set) (map row_of es))) n ∙ ap (λ b. set.contains e.1.1.set n || b) (in_union es n)

pub set_there : (v : ViewMap) (n : ℕ) → at_each v (λ q e. set.contains e.1.set n ≡ true → set.contains (set_of v) n ≡ true)
set_there v n =
    from_entries_all v (λ q e. set.contains e.1.set n ≡ true → set.contains (set_of v) n ≡ true)
    (each_some (λ x. set.contains x.set n) (table.entries v) (set.contains (set_of v) n ≡ true) (λ is. in_union (table.entries v) n ∙ is))

pub set_from : (v : ViewMap) (n : ℕ) (P : Type 0) → at_each v (λ q e. set.contains e.1.set n ≡ true → P) → set.contains (set_of v) n ≡ true → P
set_from v n P h is =
    from_some (λ x. set.contains x.set n) (table.entries v) P (to_entries v (λ q e. set.contains e.1.set n ≡ true → P) h)
    (sym (in_union (table.entries v) n) ∙ is)
