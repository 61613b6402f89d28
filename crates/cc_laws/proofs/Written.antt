-- The values that asks write, one after the other.
--     no_writes, last_write     what asks that don't write leave; the last value is the own one after all of them
--     length-values             there is one for each writing ask
--     values_both               those of two lists
--     values_kind               they are those of the writing asks
--     slice_get_front, .._seam, .._behind   an element of the first of two lists, where they meet, and of the second
use Rattle.std.proofs.Common.{◌≡◌, ℕ, ◌+◌, zero, suc, Bool, true, false, List, [], ◌∷◌, ◌++◌, length, refl, sym, ap, ◌∙◌, arith}
use Rattle.std.specs.Prelude.{Some, slice_get, if◌then◌else◌}
use Rattle.cc_views.specs.declared.value.Value.{Value}
use Rattle.cc_ops.specs.declared.pending_operation.Asked.{Asked}
use Rattle.cc_ops.specs.Commands.{is_writing, written}
use Rattle.cc_ops.specs.OwnLaws.{reading_leaves}
use Rattle.cc_ops.specs.Rounds.{of_kind}
use Rattle.cc_ops.specs.WaitingAsks.{writes_by, written_by}
use Rattle.cc_laws.specs.Written.{values_of}

pub no_writes : (asks : List Asked) (mine : Value) → writes_by asks ≡ 0 → written_by asks mine ≡ mine
no_writes [] mine none = refl
no_writes (a ∷ asks) mine none =
    elim (is_writing a.command)
    as (λ b. is_writing a.command ≡ b → (if b then 1 else 0) + writes_by asks ≡ 0 → written_by asks (written a.command mine) ≡ mine) [
      | true ↦ λ _ some. absurd (omega (arith, some))
      | false ↦ λ reads more. ap (written_by asks) (sym (reading_leaves a.command mine reads)) ∙ no_writes asks mine (omega (arith, more))
    ] refl none

-- one more write before these asks
behind : (asks : List Asked) (w : Value) (n : ℕ) → writes_by asks ≡ n
    → ((m : ℕ) → writes_by asks ≡ suc m → slice_get (values_of w asks) m ≡ Some (written_by asks w))
    → slice_get (w ∷ values_of w asks) n ≡ Some (written_by asks w)
behind asks w zero none later = ap Some (sym (no_writes asks w none))
behind asks w (suc m) is later = later m is

pub last_write : (asks : List Asked) (mine : Value) (n : ℕ) → writes_by asks ≡ suc n → slice_get (values_of mine asks) n ≡ Some (written_by asks mine)
last_write [] mine n is = absurd (omega (arith, is))
last_write (a ∷ asks) mine n is =
    let w = written a.command mine in
    elim (is_writing a.command)
    as (λ b. is_writing a.command ≡ b → (if b then 1 else 0) + writes_by asks ≡ suc n
    → slice_get (if b then w ∷ values_of w asks else values_of mine asks) n ≡ Some (written_by asks w)) [
      | true ↦ λ _ more. behind asks w n (omega (arith, more)) (last_write asks w)
      | false ↦ λ reads more. last_write asks mine n (omega (arith, more)) ∙ ap (λ v. Some (written_by asks v)) (reading_leaves a.command mine reads)
    ] refl is

pub length-values : (mine : Value) (asks : List Asked) → length (values_of mine asks) ≡ writes_by asks
length-values mine [] = refl
length-values mine (a ∷ asks) =
    let w = written a.command mine in
    elim (is_writing a.command) as (λ b. length (if b then w ∷ values_of w asks else values_of mine asks) ≡ (if b then 1 else 0) + writes_by asks) [
      | true ↦ omega (arith, length-values w asks)
      | false ↦ omega (arith, length-values mine asks)
    ]

pub values_both : (mine : Value) (xs ys : List Asked) → values_of mine (xs ++ ys) ≡ values_of mine xs ++ values_of (written_by xs mine) ys
values_both mine [] ys = refl
values_both mine (a ∷ xs) ys =
    let w = written a.command mine in
    let rest = values_of (written_by xs w) ys in
    elim (is_writing a.command)
    as (λ b. is_writing a.command ≡ b
    → (if b then w ∷ values_of w (xs ++ ys) else values_of mine (xs ++ ys)) ≡ (if b then w ∷ values_of w xs else values_of mine xs) ++ rest) [
      | true ↦ λ _. ap (λ (l : List Value). w ∷ l) (values_both w xs ys)
      | false ↦ λ reads. values_both mine xs ys ∙ ap (λ v. values_of mine xs ++ values_of (written_by xs v) ys) (reading_leaves a.command mine reads)
    ] refl

pub values_kind : (mine : Value) (asks : List Asked) → values_of mine asks ≡ values_of mine (of_kind true asks)
values_kind mine [] = refl
values_kind mine (a ∷ asks) =
    let w = written a.command mine in
    let rest = of_kind true asks in
    elim (is_writing a.command)
    as (λ b. is_writing a.command ≡ b → (if b then w ∷ values_of w asks else values_of mine asks) ≡ values_of mine (if b then a ∷ rest else rest)) [
      | true ↦
          λ writes. ap (λ (l : List Value). w ∷ l) (values_kind w asks)
          ∙ sym (ap (λ (b : Bool). if b then w ∷ values_of w rest else values_of mine rest) writes)
      | false ↦ λ _. values_kind mine asks
    ] refl

pub slice_get_front : (xs ys : List Value) (k : ℕ) (x : Value) → slice_get xs k ≡ Some x → slice_get (xs ++ ys) k ≡ Some x
slice_get_front [] ys k x e = cc
slice_get_front (y ∷ xs) ys zero x e = e
slice_get_front (y ∷ xs) ys (suc k) x e = slice_get_front xs ys k x e

pub slice_get_seam : (xs : List Value) (y : Value) (ys : List Value) → slice_get (xs ++ y ∷ ys) (length xs) ≡ Some y
slice_get_seam [] y ys = refl
slice_get_seam (x ∷ xs) y ys = slice_get_seam xs y ys

pub slice_get_behind : (xs ys : List Value) (k : ℕ) → slice_get (xs ++ ys) (length xs + k) ≡ slice_get ys k
slice_get_behind [] ys k = let same : 0 + k ≡ k = omega arith in ap (slice_get ys) same
slice_get_behind (x ∷ xs) ys k =
    let next : length (x ∷ xs) + k ≡ suc (length xs + k) = omega arith in
    ap (slice_get (x ∷ xs ++ ys)) next ∙ slice_get_behind xs ys k
