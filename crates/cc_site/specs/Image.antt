-- What an image of a site in memory holds.
--     overlaid, taken, touched_list       bytes laid over flagged places;  how many go in;  the flags of a side
--     IsFilled, IsChosen                  one byte at all touched places;  what each choice says
use Rattle.std.specs.Prelude.{◌≡◌, ℕ, zero, suc, ◌<◌, Bool, true, false, if◌then◌else◌, List, [], ◌∷◌, length, take, drop, slice_index}
use Rattle.cc_site.specs.declared.site.Side.{Side}
use Rattle.cc_site.specs.declared.site.Side.TheVariants.{A, B}
use Rattle.cc_site.specs.declared.image.Choice.{Choice}
use Rattle.cc_site.specs.declared.image.Choice.TheVariants.{Read, Fill, Bytes, Short}
use Rattle.cc_site.specs.Sides.{SideState, firm}

-- the bytes, where flagged places take the new ones in turn as far as they go
abbrev pub overlaid : List Bool → List ℕ → List ℕ → List ℕ
overlaid (true ∷ flags) (x ∷ bytes) (y ∷ new) = y ∷ overlaid flags bytes new
overlaid (false ∷ flags) (x ∷ bytes) (y ∷ new) = x ∷ overlaid flags bytes (y ∷ new)
overlaid flags bytes new = bytes

-- how many of them go in
abbrev pub taken : List Bool → List ℕ → ℕ
taken (true ∷ flags) (y ∷ new) = suc (taken flags new)
taken (false ∷ flags) (y ∷ new) = taken flags (y ∷ new)
taken flags new = 0

-- which of the n places from p on are touched
abbrev pub touched_list : (ℕ → Bool) → ℕ → ℕ → List Bool
touched_list touched p zero = []
touched_list touched p (suc n) = touched p ∷ touched_list touched (suc p) n

-- the touched places all hold one byte
pub record IsFilled (touched : ℕ → Bool) (byte : ℕ) (bytes image : List ℕ) : Type 0 where
  pub long : length image ≡ length bytes
  pub each : (p : ℕ) → p < length bytes → slice_index image p ≡ (if touched p then byte else slice_index bytes p)

-- what an image holds, by the choice
abbrev pub IsChosen : Choice → (Side → SideState) → (Side → List ℕ) → Type 0
IsChosen Read state image = (side : Side) → image side ≡ (state side).bytes
IsChosen (Fill byte) state image = (side : Side) → IsFilled (state side).touched byte (state side).bytes (image side)
IsChosen (Bytes new) state image =
    let flags : Side → List Bool = λ side. touched_list (state side).touched 0 (length (state side).bytes) in
    (image A ≡ overlaid (flags A) (state A).bytes new.items) × (image B ≡ overlaid (flags B) (state B).bytes (drop (taken (flags A) new.items) new.items))
IsChosen Short state image = (side : Side) → image side ≡ take (firm (state side)) (state side).bytes
