-- When a checkpoint begins: the node moves to the other side of its folder.
--     checkpoint_bytes, growth_bytes    a side is left once it holds more bytes than the first, and so many more than at its begin
--     IsCheckpointDue                   a checkpoint is due
use Rattle.std.specs.Prelude.{ℕ, ◌<◌, ◌-◌}

abbrev pub checkpoint_bytes : ℕ
checkpoint_bytes = 4194304

abbrev pub growth_bytes : ℕ
growth_bytes = 1048576

-- since the side in use began, with so many bytes and after so many durable events, further events became durable, and the side holds
-- plenty now
abbrev pub IsCheckpointDue : (begun : ℕ) (before : ℕ) (held : ℕ) (durable : ℕ) → Type 0
IsCheckpointDue begun before held durable = (before < durable) × (checkpoint_bytes < held) × (growth_bytes < held - begun)
