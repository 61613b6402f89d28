use Rattle.cc_sessions.specs.Rows.{entry_of}
use Rattle.cc_node_state.proofs.Restored.{Came}
use Rattle.cc_node_state.proofs.restored_node.sessions_of.Given as goal

abbrev pub invariant-loop-row : goal.invariant-loop-row
invariant-loop-row l = Came entry_of l.fn.rows.items l.yielded l.row-iterator.rest.items l.sessions
