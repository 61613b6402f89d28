-- The rows that keep sessions: a row is an entry of the map, and an entry is a row.
use Rattle.std.specs.Prelude.{ℕ, List, map}
use Rattle.std.specs.FinMap.{entries}
use Rattle.cc_sessions.specs.declared.session_row.SessionRow.{SessionRow}
use Rattle.cc_sessions.specs.Sessions.{Requests}

abbrev pub entry_of : SessionRow → ℕ × ℕ
entry_of row = (row.session, row.last)

abbrev pub row_of : ℕ × ℕ → SessionRow
row_of e = record { session = e.0; last = e.1 }

-- the rows of sessions, in ascending order
abbrev pub rows_of : Requests → List SessionRow
rows_of ss = map row_of (entries ss)
