-- What a running node remembers of the last ask of each session.
--     Remembered        the last ask of each session that was taken in since the node was started
--     found             that of a session
--     with_ask          one more ask was taken in
--     Differs           an ask repeats its session's last request with another command
--     IsRemembered      how many there are
use Rattle.std.specs.Prelude.{◌≡◌, ◌≢◌, ◌≤◌, ℕ, ◌==◌, nat_lt, not, Bool, true, List, [], ◌∷◌, ◌++◌, length, filter, find, Option, Some, None, IfSome}
use Rattle.std.specs.Prelude.{if◌then◌else◌}
use Rattle.cc_ops.specs.declared.pending_operation.Asked.{Asked}

abbrev pub Remembered : Type 0
Remembered = List Asked

-- a node serves 256 sessions in its life
abbrev pub session_limit : ℕ
session_limit = 256

abbrev pub found : ℕ → Remembered → Option Asked
found session rows = find (λ (r : Asked). r.session == session) rows

abbrev pub others : ℕ → Remembered → Remembered
others session rows = filter (λ (r : Asked). not (r.session == session)) rows

abbrev pub with_ask : Asked → Remembered → Remembered
with_ask ask rows =
    if nat_lt (length (others ask.session rows)) session_limit
    then others ask.session rows ++ ask ∷ []
    else others ask.session rows

-- under the number of the session's last request another command is asked
pub record IsOther (last ask : Asked) : Type 0 where
  pub request : last.request ≡ ask.request
  pub command : last.command ≢ ask.command

abbrev pub Differs : Asked → Remembered → Type 0
Differs ask rows = (last : Asked) × (found ask.session rows ≡ Some last) × IsOther last ask

pub record IsRemembered (rows : Remembered) (capacity : ℕ) : Type 0 where
  pub fits : length rows ≤ session_limit
  pub room : session_limit ≤ capacity
