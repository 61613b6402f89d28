-- Which side is in use: the armed one with the greater generation.
--     peek_of                what the first bytes of a side tell
--     generation_in          the generation of a side, where it is armed
--     chosen                 the side in use, and its generation
--     IsInTurn               a fault of side B is told only where side A could be read
use Rattle.std.specs.Prelude.{◌≡◌, ℕ, List, length, slice_index_or, nat_lt, ◌||◌, ◌==◌, if◌then◌else◌, Option, Some, None, Result, Ok, Err}
use Rattle.cc_site.specs.declared.site.Side.{Side}
use Rattle.cc_site.specs.declared.site.Side.TheVariants.{A, B}
use Rattle.cc_node_state.specs.Sides.{OPEN, generation_of}
use Rattle.cc_checkpoint.specs.declared.side_choice.InUse.{InUse}
use Rattle.cc_checkpoint.specs.declared.side_choice.Peeked.{Peeked}
use Rattle.cc_checkpoint.specs.declared.side_choice.Peeked.TheVariants.{Closed, Armed, Short}
use Rattle.cc_checkpoint.specs.declared.open_fault.OpenFault.{OpenFault}
use Rattle.cc_checkpoint.specs.declared.open_fault.OpenFault.TheVariants.{NotFormatted, Damaged, Version, Device, NoMemory}
use Rattle.cc_checkpoint.specs.Faults.{◌>>=◌}

abbrev pub peek_of : List ℕ → Peeked
peek_of bytes = if slice_index_or bytes 0 0 == OPEN then (if nat_lt (length bytes) 9 then Short else Armed (generation_of bytes)) else Closed

unfoldable pub generation_in : Side → List ℕ → Result (Option ℕ) OpenFault
generation_in side bytes =
    if slice_index_or bytes 0 0 == OPEN
    then (if nat_lt (length bytes) 9 || (generation_of bytes == 0) then Err (Damaged side 1) else Ok (Some (generation_of bytes)))
    else Ok None

abbrev pub in_use : Side → ℕ → InUse
in_use side generation = record { side = side; generation = generation }

unfoldable pub greater : Option ℕ → Option ℕ → Result InUse OpenFault
greater None None = Err NotFormatted
greater (Some a) None = Ok (in_use A a)
greater None (Some b) = Ok (in_use B b)
greater (Some a) (Some b) = if a == b then Err (Damaged B 1) else (if nat_lt a b then Ok (in_use B b) else Ok (in_use A a))

unfoldable pub chosen : List ℕ → List ℕ → Result InUse OpenFault
chosen a b = generation_in A a >>= λ first. generation_in B b >>= λ second. greater first second

-- side B is looked at only once side A has a generation, or isn't armed
abbrev pub IsInTurn : List ℕ → OpenFault → Type 0
IsInTurn a (Device fault) = fault.side ≡ B → (first : Option ℕ) × (generation_in A a ≡ Ok first)
IsInTurn a NotFormatted = Unit {0}
IsInTurn a (Damaged side place) = Unit {0}
IsInTurn a (Version version) = Unit {0}
IsInTurn a NoMemory = Unit {0}
