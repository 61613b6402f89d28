use Rattle.std.proofs.Common.{take, Ok}
use Rattle.std.specs.List.{flat_map}
use Rattle.cc_wire.specs.Writers.{Writes}
use Rattle.cc_links.specs.Rows.{entry_of}
use Rattle.cc_node_state.specs.States.{link_spelling}
use Rattle.cc_node_state.proofs.state_writer.put_links.Given as goal

abbrev pub invariant-loop-row : goal.invariant-loop-row
invariant-loop-row l = Writes l.fn.out l.out (flat_map (λ row. link_spelling (entry_of row)) (take l.row-index l.rows)) (Ok tt)
