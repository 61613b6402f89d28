-- How long spellings are at most.
use Rattle.std.specs.Prelude.{ℕ, ◌≤◌, List, length}

-- what has a spelling has one of at most so many bytes
abbrev pub TakesAtMost : {X : Type 0} → ℕ → (X → Type 0) → (X → List ℕ) → Type 0
TakesAtMost {X} most Is spelling = (x : X) → Is x → length (spelling x) ≤ most
