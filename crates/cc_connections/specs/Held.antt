-- What a reader of frames holds: bytes that have no whole frame and no bad length at their front.
--     frame_length, is_partial      how long the frame at the front is, and whether not all of it is there
--     front_of                      the frame at the front, where it is whole
--     TopsUp, IsHeld                how bytes are added, and what a reader keeps
use Rattle.std.specs.Prelude.{◌≡◌, ℕ, ◌+◌, ◌≤◌, List, ◌++◌, length, take, Bool, false, Option, Some, None, Result, Ok, Err, IsTrue, IsOkAnd, nat_lt}
use Rattle.std.specs.Prelude.{if◌then◌else◌}
use Rattle.cc_wire.specs.declared.fault.WireFault.{WireFault}
use Rattle.cc_connections.specs.declared.frame.Frame.{Frame}
use Rattle.cc_connections.specs.Limits.{frame_limit}
use Rattle.cc_wire.specs.Readers.{◌>>=◌}
use Rattle.cc_connections.specs.Frames.{body_length_at, frame_at}

-- How long the frame at the front is: the four bytes of its length, and once these are there, the body too.
unfoldable pub frame_length : List ℕ → Result ℕ WireFault
frame_length bytes = if nat_lt (length bytes) 4 then Ok 4 else (body_length_at bytes >>= λ n. Ok (4 + n.0))

abbrev pub is_below : ℕ → Result ℕ WireFault → Bool
is_below count (Ok limit) = nat_lt count limit
is_below count (Err e) = false

-- neither a whole frame nor a bad length stands at the front
unfoldable pub is_partial : List ℕ → Bool
is_partial bytes = is_below (length bytes) (frame_length bytes)

abbrev pub front_of : List ℕ → Result (Option Frame) WireFault
front_of bytes = if is_partial bytes then Ok None else (frame_at bytes >>= λ f. Ok (Some f.0))

-- so many bytes of the piece were added, and none behind the first frame
pub record TopsUp (old piece : List ℕ) (used : ℕ) (new : List ℕ) : Type 0 where
  pub within : used ≤ length piece
  pub added : new ≡ old ++ take used piece
  pub all : IsTrue (is_partial new) → used ≡ length piece
  pub no_more : IsOkAnd (frame_length new) (λ n. length new ≤ n)

-- room for the largest frame
pub record IsHeld (held : List ℕ) (capacity : ℕ) : Type 0 where
  pub partial : IsTrue (is_partial held)
  pub room : frame_limit ≤ capacity
