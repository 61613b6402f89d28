use Rattle.std.proofs.Common.{take}
use Rattle.std.specs.List.{AllByRecursion}
use Rattle.cc_outbox.specs.Rows.{entry_of}
use Rattle.cc_node_state.specs.States.{IsKeptAnswer}
use Rattle.cc_node_state.proofs.spellable.answer_rows_are_spellable.Given as goal

abbrev pub invariant-loop-kept : goal.invariant-loop-kept
invariant-loop-kept l = AllByRecursion (λ row. IsKeptAnswer (entry_of row)) (take l.kept-index l.rows)
