use Rattle.std.specs.Prelude.{◌≤◌, ⊤}
use Rattle.std.specs.Vec.{vec_capacity}
use Rattle.cc_sessions.specs.Rows.{entry_of}
use Rattle.cc_node_state.specs.States.{rows_at, session_at}
use Rattle.cc_node_state.proofs.TableReads.{RowsRead}
use Rattle.cc_node_state.proofs.state_reader.read_sessions.Given as goal

abbrev pub invariant-loop : goal.invariant-loop
invariant-loop l = record {
  read : RowsRead entry_of session_at ⊤ l.count (rows_at session_at l.count 0 l.fn.reader) l.counter l.least l.reader l.rows.items;
  room : l.count ≤ vec_capacity l.rows;
}
