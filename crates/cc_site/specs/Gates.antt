-- The byte that begins a side, its gate: open, or any other.
--     IsShut                              it isn't that of an open gate
--     shut_like                           so is what begins with the same byte
--     shut_cut, shut_written              a cut or a write behind it leaves it so
--     byte_written                        while one byte of a durable side is written, it is as it was but for that byte
--     gate_written                        so the side is shut while its gate is opened, or it is open and whole
use Rattle.std.proofs.Common.{◌≡◌, ◌≢◌, ◌⊎◌, inl, inr, ℕ, ◌<◌, ◌≤◌, List, ◌∷◌, length, take, set, slice_index, sym, ◌∙◌, ap, arith, get_or}
use Rattle.std.specs.Prelude.{slice_index_or}
use Rattle.std.proofs.lemmas.Bool.{cases_eq}
use Rattle.std.proofs.lemmas.List.{get_or-take, set-set, set-get_or}
use Rattle.cc_site.specs.declared.gate.TheConstants.{OPEN_GATE}
use Rattle.cc_site.specs.Sides.{SideState, MayLeave, touch, shift, durable}
use Rattle.cc_site.specs.SideLaws.{durable_only}
use Rattle.cc_site.specs.FrontLaws.{touch_keeps, shift_keeps, restored}

-- the first byte is none of an open gate, or there is none
abbrev pub IsShut : List ℕ → Type 0
IsShut bytes = slice_index_or bytes 0 0 ≢ OPEN_GATE

-- the same first byte
pub shut_like : (c d : List ℕ) → take 1 c ≡ take 1 d → IsShut d → IsShut c
shut_like c d same shut opened =
    shut (sym (get_or-take 1 d 0 0 (omega arith)) ∙ ap (λ (l : List ℕ). get_or l 0 0) (sym same) ∙ get_or-take 1 c 0 0 (omega arith) ∙ opened)

module _ (s : SideState) (shut : (c : List ℕ) → MayLeave s c → IsShut c) (some : 1 ≤ length s.bytes) where
  pub shut_cut : (c : List ℕ) → MayLeave (shift s 1) c → IsShut c
  shut_cut c may = let before = (shift_keeps s 1 some).from c may in shut_like c before.0 before.2 (shut before.0 before.1)

  pub shut_written : (n : ℕ) (c : List ℕ) → MayLeave (touch s 1 n) c → IsShut c
  shut_written n c may =
      let before = (touch_keeps s 1 1 n (omega arith) some).from c may in shut_like c before.0 before.2 (shut before.0 before.1)

pub byte_written : (bytes c : List ℕ) (place : ℕ) → place < length bytes → MayLeave (touch (durable bytes) place 1) c
    → c ≡ set bytes place (slice_index c place)
byte_written bytes c place within may =
    let before = durable_only bytes (set c place (slice_index bytes place)) (restored (durable bytes) place within c may) in
    sym (set-get_or c place 0) ∙ sym (set-set c place (slice_index bytes place) (slice_index c place))
    ∙ ap (λ (l : List ℕ). set l place (slice_index c place)) before

-- whatever byte the gate had
pub gate_written : (gate : ℕ) (image c : List ℕ) → MayLeave (touch (durable (gate ∷ image)) 0 1) c → IsShut c ⊎ (c ≡ OPEN_GATE ∷ image)
gate_written gate image c may =
    let now : c ≡ set (gate ∷ image) 0 (slice_index c 0) = byte_written (gate ∷ image) c 0 (omega arith) may in
    elim (cases_eq (slice_index c 0) OPEN_GATE) [
      | inl opened ↦ inr (now ∙ ap (λ (b : ℕ). b ∷ image) opened)
      | inr shut ↦ inl shut
    ]
