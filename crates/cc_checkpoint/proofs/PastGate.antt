-- Where a write behind the gate of a side fails: its first byte is read as it was.
--     half_past           of a write that may have been made in part
--     durably_past        of one whose sync may have failed too
--     front_kept          of a side with some more bytes, and of one that began with this one's first byte
use Rattle.std.proofs.Common.{◌≡◌, inl, inr, ℕ, zero, suc, ◌≤◌, List, [], ◌∷◌, ◌++◌, length, take, refl, ◌∙◌, ap, arith}
use Rattle.std.proofs.Common.{append_assoc, length-append, length-take}
use Rattle.std.specs.Prelude.{◌⊎◌, Result, Ok, Err, OnErr, IfErr}
use Rattle.cc_site.specs.declared.site.Side.{Side}
use Rattle.cc_site.specs.declared.site.Call.TheVariants.{Write, Sync}
use Rattle.cc_site.specs.declared.site.DeviceFault.{DeviceFault}
use Rattle.cc_site.specs.Sides.{SideState, HalfWritten, MayHaveWritten, overwritten}
use Rattle.cc_site.specs.HalfLaws.{half_written_front}
use Rattle.cc_site.specs.Moments.{CountsOneFault}
use Rattle.cc_checkpoint.specs.Stops.{ImageStops}

pub half_past : (old new : SideState) (at size : ℕ)
    → 1 ≤ at → at ≤ length old.bytes → HalfWritten old at size new ⊎ (new ≡ old) → take 1 new.bytes ≡ take 1 old.bytes
half_past old new at size from within (inl half) = half_written_front old new 1 at size from within half
half_past old new at size from within (inr same) = ap (λ (t : SideState). take 1 t.bytes) same

written_past : (bytes old : List ℕ) (at : ℕ) → 1 ≤ at → at ≤ length old → take 1 (overwritten old at bytes) ≡ take 1 old
written_past bytes old zero from within = absurd (omega (arith, from))
written_past bytes [] (suc at) from within = absurd (omega (arith, within))
written_past bytes (b ∷ old) (suc at) from within = refl

durably_past : (old new : SideState) (at : ℕ) (bytes : List ℕ)
    → 1 ≤ at → at ≤ length old.bytes → MayHaveWritten old at bytes new → take 1 new.bytes ≡ take 1 old.bytes
durably_past old new at bytes from within (inl same) = ap (λ (t : SideState). take 1 t.bytes) same
durably_past old new at bytes from within (inr (inl half)) = half_written_front old new 1 at (length bytes) from within half
durably_past old new at bytes from within (inr (inr all)) = ap (λ (t : SideState). take 1 t.bytes) all ∙ written_past bytes old.bytes at from within

-- one list is the beginning of both
pub front_kept : (a b c d : List ℕ) → 1 ≤ length a → 1 ≤ length c → a ++ b ≡ c ++ d → take 1 a ≡ take 1 c
front_kept [] b c d some there same = absurd (omega (arith, some))
front_kept (x ∷ a) b [] d some there same = absurd (omega (arith, there))
front_kept (x ∷ a) b (y ∷ c) d some there same = ap (λ (l : List ℕ). take 1 l) same

first_kept : (old front : List ℕ) → 1 ≤ length old → take 1 (take 1 old ++ front) ≡ take 1 old
first_kept [] front there = absurd (omega (arith, there))
first_kept (b ∷ old) front there = refl

-- the gate closed behind an image
pub image_stops : (old first second new : SideState) (front more : List ℕ) (at before now : ℕ) (side : Side) (r : Result (Unit {0}) DeviceFault)
    → 1 ≤ length old.bytes → 1 ≤ at → at ≡ length second.bytes
    → first.bytes ≡ take 1 old.bytes ++ front → second.bytes ≡ first.bytes ++ more
    → OnErr r (MayHaveWritten second at (0 ∷ []) new) → CountsOneFault before now side Write Sync r
    → IfErr r (λ f. ImageStops old f.call new)
image_stops old first second new front more at before now side (Ok u) there from end begun written failed fault = tt
image_stops old first second new front more at before now side (Err f) there from end begun written failed fault =
    let some : 1 ≤ length first.bytes =
    omega (arith, ap length begun, length-append (take 1 old.bytes) front, length-take 1 old.bytes, there) in
    inr (
      fault.1,
      durably_past second new at (0 ∷ []) from (omega (arith, end)) failed
          ∙ ap (λ (l : List ℕ). take 1 l) written
          ∙ front_kept (first.bytes ++ more) [] first.bytes (more ++ [])
          (omega (arith, length-append first.bytes more, some)) some (append_assoc first.bytes more [])
          ∙ ap (λ (l : List ℕ). take 1 l) begun
          ∙ first_kept old.bytes front there,
    )
