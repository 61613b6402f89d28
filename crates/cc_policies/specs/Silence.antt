-- Which peers are silent.
--     silence_ms      for how many milliseconds none of its frames came
--     is_silent       whether a peer is silent at a moment
use Rattle.std.specs.Prelude.{ℕ, ◌-◌, ◌||◌, nat_le, not, Bool, true, Option, Some, None}

abbrev pub silence_ms : ℕ
silence_ms = 3000

-- each node that runs sends something each second, so a peer is silent where no open connection brings its frames, or none came for
-- three seconds; so is one that wasn't heard since the node was started
abbrev pub is_silent : Bool → Option ℕ → ℕ → Bool
is_silent has_speaker None now = true
is_silent has_speaker (Some heard) now = not has_speaker || nat_le silence_ms (now - heard)
