-- What a table of last asks keeps.
--     kept_asks       without some of them
--     pushed_ask      with one more
use Rattle.std.proofs.Common.{◌≤◌, ◌<◌, Bool, ℕ, [], ◌∷◌, ◌++◌, length, arith}
use Rattle.std.specs.Prelude.{filter}
use Rattle.std.proofs.lemmas.List.{length-append}
use Rattle.cc_ops.specs.declared.pending_operation.Asked.{Asked}
use Rattle.cc_policies.specs.LastAsks.{Remembered, IsRemembered, session_limit}
use Rattle.cc_policies.proofs.RouteLaws.{shorter}

pub kept_asks : (rows : Remembered) (capacity : ℕ) → IsRemembered rows capacity → (p : Asked → Bool) → IsRemembered (filter p rows) capacity
kept_asks rows capacity is p = record { fits = omega (arith, shorter p rows, is.fits); room = is.room }

pub pushed_ask : (rows : Remembered) (capacity more : ℕ) (row : Asked) → IsRemembered rows capacity → length rows < session_limit → capacity ≤ more
    → IsRemembered (rows ++ row ∷ []) more
pushed_ask rows capacity more row is below le = record { fits = omega (arith, length-append rows (row ∷ []), below); room = omega (arith, is.room, le) }
