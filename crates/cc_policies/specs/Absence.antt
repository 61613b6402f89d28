-- The numbers by which a running node goes on without peers that stay away.
use Rattle.std.specs.Prelude.{ℕ}

-- after so many whole seconds a peer that still owes is absent
abbrev pub patience : ℕ
patience = 2

-- an absent peer may keep so many posts from being dropped
abbrev pub pinned : ℕ
pinned = 64

-- where nothing else calls for a snapshot, so many seconds pass between two
abbrev pub period : ℕ
period = 8

-- after so many seconds an operation has been pending for long
abbrev pub long : ℕ
long = 8
