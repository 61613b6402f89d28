-- Why two sides can't be opened.
--     ◌>>=◌                      one thing found after another
--     Fails, Answers             what a function answered is what was to be found, unless a disk call or memory failed
--     FaultRose, CountsDevice    a device fault names one of these calls, and is told where the count of failures rose, and only there
use Rattle.std.specs.Prelude.{◌≡◌, ℕ, Result, Ok, Err, MatchResult}
use Rattle.cc_site.specs.declared.site.Side.{Side}
use Rattle.cc_site.specs.declared.site.Call.{Call}
use Rattle.cc_site.specs.ToldFaults.{Tells}
use Rattle.cc_checkpoint.specs.declared.open_fault.OpenFault.{OpenFault}
use Rattle.cc_checkpoint.specs.declared.open_fault.OpenFault.TheVariants.{NotFormatted, Damaged, Version, Device, NoMemory}

infixl 10 ◌>>=◌
abbrev pub ◌>>=◌ : {A B : Type 0} → Result A OpenFault → (A → Result B OpenFault) → Result B OpenFault
(Ok x) >>= f = f x
(Err e) >>= f = Err e

abbrev pub Fails : {Y : Type 0} → Result Y OpenFault → OpenFault → Type 0
Fails found (Device fault) = Unit {0}
Fails found NoMemory = Unit {0}
Fails found NotFormatted = found ≡ Err NotFormatted
Fails found (Damaged side place) = found ≡ Err (Damaged side place)
Fails found (Version version) = found ≡ Err (Version version)

abbrev pub Answers : {X Y : Type 0} → (X → Y) → Result X OpenFault → Result Y OpenFault → Type 0
Answers view (Ok x) found = found ≡ Ok (view x)
Answers view (Err fault) found = Fails found fault

abbrev pub FaultRose : (Side → Call → Type 0) → ℕ → ℕ → OpenFault → Type 0
FaultRose calls before now (Device fault) = Tells calls before now fault
FaultRose calls before now NotFormatted = now ≡ before
FaultRose calls before now (Damaged side place) = now ≡ before
FaultRose calls before now (Version version) = now ≡ before
FaultRose calls before now NoMemory = now ≡ before

abbrev pub CountsDevice : {T : Type 0} → (Side → Call → Type 0) → ℕ → ℕ → Result T OpenFault → Type 0
CountsDevice calls before now result = MatchResult result (λ _. now ≡ before) (FaultRose calls before now)
