use Rattle.std.proofs.Common.{take}
use Rattle.std.specs.List.{AllByRecursion}
use Rattle.cc_links.specs.Rows.{entry_of}
use Rattle.cc_node_state.specs.States.{IsLink}
use Rattle.cc_node_state.proofs.spellable.link_rows_are_spellable.Given as goal

abbrev pub invariant-loop-row : goal.invariant-loop-row
invariant-loop-row l = AllByRecursion (λ row. IsLink (entry_of row)) (take l.row-index l.rows)
