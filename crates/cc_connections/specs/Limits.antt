-- How much a frame holds at most.
--     body_limit              bytes of a frame's body
--     frame_limit             bytes of a frame: the length of the body, and the body
use Rattle.std.specs.Prelude.{ℕ, ◌+◌}

abbrev pub body_limit : ℕ
body_limit = 65536

abbrev pub frame_limit : ℕ
frame_limit = 4 + body_limit
