use Rattle.std.proofs.Common.{take}
use Rattle.std.specs.List.{AllByRecursion}
use Rattle.cc_sessions.specs.Rows.{entry_of}
use Rattle.cc_node_state.specs.States.{IsSession}
use Rattle.cc_node_state.proofs.spellable.session_rows_are_spellable.Given as goal

abbrev pub invariant-loop-row : goal.invariant-loop-row
invariant-loop-row l = AllByRecursion (λ row. IsSession (entry_of row)) (take l.row-index l.rows)
