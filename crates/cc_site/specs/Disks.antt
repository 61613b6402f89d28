-- Two byte files in memory: their bytes (`bytes_of`), and what a call adds to their record (`AddsStep`, `StaysFull`).
use Rattle.std.specs.Prelude.{◌≡◌, ℕ, ◌≤◌, List, length}
use Rattle.std.specs.Vec.{vec_capacity}
use Rattle.cc_site.specs.declared.disk.Disk.{Disk}
use Rattle.cc_site.specs.declared.site.Side.{Side}
use Rattle.cc_site.specs.Record.{file, Marks, Adds}

-- the bytes of each side
abbrev pub bytes_of : Disk → Side → List ℕ
bytes_of disk = file disk.a.items disk.b.items

-- one step more on a side, which has this effect on its marks
abbrev pub AddsStep : Side → ℕ → Disk → Disk → (Marks → Marks) → Type 0
AddsStep side told old new effect = Adds side told old.steps.items new.steps.items (bytes_of old side) (bytes_of new side) effect

-- the record was full, and there is no step more
abbrev pub StaysFull : Disk → Disk → Type 0
StaysFull old new = (new.steps.items ≡ old.steps.items) × (vec_capacity old.steps ≤ length old.steps.items)
