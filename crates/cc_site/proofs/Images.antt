-- What an image holds is one of the contents that a crash may leave (`chosen_possible`).
use Rattle.std.proofs.Common.{◌≡◌, ℕ, zero, suc, ◌<◌, ◌≤◌, Bool, true, false, cond, List, ◌∷◌, length, take, drop, slice_index, slice_index_or}
use Rattle.std.proofs.Common.{unwrap_or, refl, sym, ◌∙◌, ap, subst, arith}
use Rattle.std.proofs.lemmas.List.{length-take-le, get_or-take}
use Rattle.cc_site.specs.declared.site.Side.{Side}
use Rattle.cc_site.specs.declared.site.Side.TheVariants.{A, B}
use Rattle.cc_site.specs.declared.image.Choice.{Choice}
use Rattle.cc_site.specs.declared.image.Choice.TheVariants.{Read, Fill, Bytes, Short}
use Rattle.cc_site.specs.Sides.{SideState, MayLeave, firm}
use Rattle.cc_site.proofs.Flags.{touched_at}
use Rattle.cc_site.specs.Image.{overlaid, taken, touched_list, IsFilled, IsChosen}

length-overlaid : (flags : List Bool) (bytes new : List ℕ) → length (overlaid flags bytes new) ≡ length bytes
length-overlaid (true ∷ flags) (x ∷ bytes) (y ∷ new) = ap suc (length-overlaid flags bytes new)
length-overlaid (false ∷ flags) (x ∷ bytes) (y ∷ new) = ap suc (length-overlaid flags bytes (y ∷ new))
length-overlaid flags bytes new = refl

-- places that aren't flagged stay
stays : (flags : List Bool) (bytes new : List ℕ) (p : ℕ) → slice_index_or flags p false ≡ false → slice_index (overlaid flags bytes new) p ≡ slice_index bytes p
stays (true ∷ flags) (x ∷ bytes) (y ∷ new) zero clean = absurd cc
stays (true ∷ flags) (x ∷ bytes) (y ∷ new) (suc p) clean = stays flags bytes new p clean
stays (false ∷ flags) (x ∷ bytes) (y ∷ new) (suc p) clean = stays flags bytes (y ∷ new) p clean
stays (false ∷ flags) (x ∷ bytes) (y ∷ new) zero clean = refl
stays flags bytes new p clean = refl

-- the same length, and untouched places as they were
kept : (s : SideState) (image : List ℕ) → firm s ≤ length s.bytes → length image ≡ length s.bytes
    → ((p : ℕ) → p < firm s → s.touched p ≡ false → slice_index image p ≡ slice_index s.bytes p) → MayLeave s image
kept s image fits long same = record { no_shorter = omega arith; no_longer = λ is. long; same = same }

cut_short : (s : SideState) → firm s ≤ length s.bytes → MayLeave s (take (firm s) s.bytes)
cut_short s fits =
    let long = length-take-le (firm s) s.bytes fits in record {
      no_shorter = omega (arith, long);
      no_longer = λ is. long ∙ ap (λ o. unwrap_or o (length s.bytes)) is;
      same = λ p below clean. get_or-take (firm s) s.bytes p 0 below;
    }

laid_possible : (s : SideState) (new : List ℕ) → firm s ≤ length s.bytes → MayLeave s (overlaid (touched_list s.touched 0 (length s.bytes)) s.bytes new)
laid_possible s new fits =
    let flags = touched_list s.touched 0 (length s.bytes) in
    kept s (overlaid flags s.bytes new) fits (length-overlaid flags s.bytes new) (λ p below clean.
    stays flags s.bytes new p (touched_at s.touched 0 (length s.bytes) p (omega arith) ∙ ap s.touched (omega arith) ∙ clean))

filled_possible : (s : SideState) (byte : ℕ) (image : List ℕ) → firm s ≤ length s.bytes → IsFilled s.touched byte s.bytes image → MayLeave s image
filled_possible s byte image fits is = kept s image fits is.long
    (λ p below clean. is.each p (omega arith) ∙ ap (λ b. cond b byte (slice_index s.bytes p)) clean)

pub chosen_possible : (choice : Choice) (state : Side → SideState) (image : Side → List ℕ) → ((side : Side) → firm (state side) ≤ length (state side).bytes)
    → IsChosen choice state image → (side : Side) → MayLeave (state side) (image side)
chosen_possible Read state image fits is side = kept (state side) (image side) (fits side) (ap length (is side))
    (λ p below clean. ap (λ (l : List ℕ). slice_index l p) (is side))
chosen_possible (Fill byte) state image fits is side = filled_possible (state side) byte (image side) (fits side) (is side)
chosen_possible (Bytes new) state image fits is A = subst (MayLeave (state A)) (sym is.0) (laid_possible (state A) new.items (fits A))
chosen_possible (Bytes new) state image fits is B = subst (MayLeave (state B)) (sym is.1)
    (laid_possible (state B) (drop (taken (touched_list (state A).touched 0 (length (state A).bytes)) new.items) new.items) (fits B))
chosen_possible Short state image fits is side = subst (MayLeave (state side)) (sym (is side)) (cut_short (state side) (fits side))
