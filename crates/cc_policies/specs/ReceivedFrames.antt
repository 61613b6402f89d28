-- The frames that come out of a reader.
--     ahead              the bytes of all frames that are still to come, where they are known
--     unused, IsUnused   the bytes of a piece that weren't used yet
--     Next, Passes       what is known of the next frame, and of what one feed gives
--     Grows              how much is held after a feed that gave no frame
--     IsRefused, Ends    why bytes are refused, and why no further frame comes
use Rattle.std.specs.Prelude.{◌≡◌, ◌<◌, ◌≤◌, ◌+◌, ℕ, List, ◌++◌, length, slice_range, false, Option, None, Some, Err, IsTrue, IfSome, ⊤}
use Rattle.std.specs.List.{AllByRecursion}
use Rattle.cc_wire.specs.declared.fault.WireFault.{WireFault}
use Rattle.cc_wire.specs.declared.fault.WireFault.TheVariants.{NoMemory}
use Rattle.cc_connections.specs.declared.frame.Frame.{Frame}
use Rattle.cc_connections.specs.Frames.{frame_spelling, IsFrame, frame_at}
use Rattle.cc_connections.specs.Held.{is_partial}
use Rattle.cc_policies.specs.declared.received_frames.Ending.{Ending}
use Rattle.cc_policies.specs.declared.received_frames.Ending.TheVariants as ending

-- what is held of a frame that began, what was read behind it, and what the reader will give
abbrev pub ahead : Option (List ℕ) → List ℕ → Option (List ℕ) → Option (List ℕ)
ahead (Some held) read (Some rest) = Some (held ++ (read ++ rest))
ahead (Some held) read None = None
ahead None read rest = None

-- so many bytes of a piece were read, and so many of these were used
abbrev pub unused : List ℕ → ℕ → ℕ → List ℕ
unused piece start end = slice_range piece start end

pub record IsUnused (piece : List ℕ) (start end : ℕ) : Type 0 where
  pub ordered : start ≤ end
  pub within : end ≤ length piece
  pub some : 0 < length piece

-- what is held is a beginning of a frame
abbrev pub Begins : Option (List ℕ) → Type 0
Begins held = IfSome held (λ bytes. IsTrue (is_partial bytes) × AllByRecursion (λ b. b < 256) bytes)

-- these bytes begin with a frame, and others follow it
abbrev pub Next : List ℕ → Frame → Option (List ℕ) → Type 0
Next bytes frame after = IsFrame frame × (rest : List ℕ) × (after ≡ Some rest) × (bytes ≡ frame_spelling frame ++ rest)

-- a frame or none was taken off these bytes
abbrev pub Passes : List ℕ → Option Frame → Option (List ℕ) → Type 0
Passes bytes None after = after ≡ Some bytes
Passes bytes (Some frame) after = Next bytes frame after

abbrev pub held_length : Option (List ℕ) → ℕ
held_length (Some held) = length held
held_length None = 0

-- where no frame came, as much more is held
abbrev pub Grows : Option (List ℕ) → ℕ → Option Frame → Option (List ℕ) → Type 0
Grows old more None new = held_length new ≡ held_length old + more
Grows old more (Some frame) new = ⊤

-- at their front stands a bad length, or a whole body that is bad
abbrev pub IsBad : List ℕ → WireFault → Type 0
IsBad bytes fault = (bad : List ℕ) × (more : List ℕ) × (bytes ≡ bad ++ more) × (is_partial bad ≡ false) × (frame_at bad ≡ Err fault)

-- why bytes are refused: want of memory, of which nothing is known, or what stands at their front
abbrev pub IsRefused : List ℕ → WireFault → Type 0
IsRefused bytes NoMemory = ⊤
IsRefused bytes fault = IsBad bytes fault

-- why no frame comes next: at the end of input no whole frame is left, and a read failed only where one can
abbrev pub Ends : Type 0 → List ℕ → Ending → Type 0
Ends fails bytes ending.Input = IsTrue (is_partial bytes)
Ends fails bytes ending.Failure = fails
Ends fails bytes (ending.Bytes fault) = IsRefused bytes fault
