-- Gates, and what stands behind the length of a record, are read as they stand.
use Rattle.std.proofs.Common.{drop-cons, ◌≡◌, inl, inr, ℕ, ◌-◌, ◌<◌, ◌≤◌, eqb, Bool, List, ◌∷◌, ◌++◌, length, take, drop, get_or, sym, ◌∙◌, ap, subst, arith}
use Rattle.std.specs.Prelude.{MatchBool}
use Rattle.std.specs.Int.{to_be_bytes, from_be_bytes, w32}
use Rattle.std.proofs.lemmas.Bool.{cases_Bool, eqb-true, eqb-false}
use Rattle.std.proofs.lemmas.List.{get_or-take, length-append, length-drop}
use Rattle.cc_wire.proofs.Spelled.{IsBytes}
use Rattle.cc_journal.specs.EventReads.{BodyStands, NoBody, BeginsOpen, BeginsClosed}
use Rattle.cc_journal.proofs.EventReadLaws.{too_short, stand_behind}

-- ---- a gate (its byte stands here as the number that the code has: compared under its name it takes minutes)

pub gate_read : (rest gate : List ℕ) → 1 ≤ length rest → gate ≡ take 1 rest → MatchBool (eqb (get_or gate 0 0) 165) (BeginsOpen rest) (BeginsClosed rest)
gate_read rest gate some read =
    let byte : get_or gate 0 0 ≡ get_or rest 0 0 = ap (λ (l : List ℕ). get_or l 0 0) read ∙ get_or-take 1 rest 0 0 (omega arith) in
    let stands : rest ≡ get_or gate 0 0 ∷ drop 1 rest = drop-cons rest 0 0 some ∙ ap (λ (b : ℕ). b ∷ drop 1 rest) (sym byte) in
    let read_as = λ (b : Bool). MatchBool b (BeginsOpen rest) (BeginsClosed rest) in
    elim (cases_Bool (eqb (get_or gate 0 0) 165)) [
      | inl is ↦ subst read_as (sym is) (stands ∙ ap (λ (b : ℕ). b ∷ drop 1 rest) (eqb-true _ _ is))
      | inr is_not ↦ subst read_as (sym is_not) (get_or gate 0 0, stands, eqb-false _ _ is_not)
    ]

-- ---- a length, and so many bytes

pub none_short : (rest : List ℕ) → length rest < 4 → NoBody rest
none_short rest short body stands =
    let size = to_be_bytes w32 (length body) in
    absurd (omega (arith, ap length stands.parts, length-append (size ++ body) stands.rest, length-append size body))

module _ (rest : List ℕ) (size : ℕ) (number : List ℕ) (is_size : size ≡ from_be_bytes w32 number) (read : number ≡ take 4 rest) where
  pub none_past : length rest - 4 < size → NoBody rest
  none_past past body stands =
      too_short rest number size is_size read (omega (arith, length-drop 4 rest)) body stands.rest (omega (arith, stands.fits)) stands.parts

  pub body_stands : 4 ≤ length rest → IsBytes number → size ≤ 262144 → size ≤ length rest - 4 → (body : List ℕ) → body ≡ take size (drop 4 rest)
      → BodyStands rest body
  body_stands some fits few within body body_read =
      let behind = stand_behind rest number size is_size read some fits (omega (arith, length-drop 4 rest)) body body_read in
      record { rest = drop size (drop 4 rest); fits = omega (arith, behind.0); parts = behind.1 }
