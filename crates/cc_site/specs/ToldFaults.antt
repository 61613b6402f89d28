-- Which disk call a fault names.
--     Looks                        it asks how long a side is, or what it holds
--     LooksAt, LooksAtEither       so it does of this side;  of one of the two
--     IsOn                         it is any call on this side
--     Tells, CountsCalls           the fault names such a call and its side, and the count of failures rose;  it rises with a fault only
use Rattle.std.specs.Prelude.{◌≡◌, ◌⊎◌, ℕ, Result, MatchResult}
use Rattle.cc_site.specs.declared.site.Side.{Side}
use Rattle.cc_site.specs.declared.site.Call.{Call}
use Rattle.cc_site.specs.declared.site.Call.TheVariants.{Length, Read}
use Rattle.cc_site.specs.declared.site.DeviceFault.{DeviceFault}
use Rattle.cc_site.specs.Moments.{Rose}

abbrev pub Looks : Call → Type 0
Looks call = (call ≡ Length) ⊎ (call ≡ Read)

abbrev pub LooksAt : Side → Side → Call → Type 0
LooksAt this side call = (side ≡ this) × Looks call

abbrev pub LooksAtEither : Side → Call → Type 0
LooksAtEither side call = Looks call

abbrev pub IsOn : Side → Side → Call → Type 0
IsOn this side call = side ≡ this

abbrev pub Tells : (Side → Call → Type 0) → ℕ → ℕ → DeviceFault → Type 0
Tells calls before now fault = calls fault.side fault.call × Rose before now

abbrev pub CountsCalls : {T : Type 0} → (Side → Call → Type 0) → ℕ → ℕ → Result T DeviceFault → Type 0
CountsCalls calls before now result = MatchResult result (λ _. now ≡ before) (Tells calls before now)
