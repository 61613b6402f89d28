-- Which outputs a site in memory keeps (`kept`), and how many it has lost (`lost_after`).
use Rattle.std.specs.Prelude.{ℕ, ◌+◌, ◌-◌, ◌^◌, min, nat_lt, if◌then◌else◌, List, [], ◌∷◌, ◌++◌, length, Option, None, Some}
use Rattle.cc_messages.specs.declared.output.Output.{Output}

-- the outputs, where one more comes: None is one for which there was no memory
abbrev pub kept : ℕ → List Output → Option Output → List Output
kept reserve outputs None = outputs
kept reserve outputs (Some output) = if nat_lt (length outputs) reserve then outputs ++ output ∷ [] else outputs

-- how many are lost then, a u64 that stops at its greatest value
abbrev pub lost_after : ℕ → List Output → Option Output → ℕ → ℕ
lost_after reserve outputs None lost = min (lost + 1) (2 ^ 64 - 1)
lost_after reserve outputs (Some output) lost = if nat_lt (length outputs) reserve then lost else min (lost + 1) (2 ^ 64 - 1)
