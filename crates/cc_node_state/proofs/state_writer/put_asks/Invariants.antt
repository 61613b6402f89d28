use Rattle.std.proofs.Common.{take, Ok}
use Rattle.std.specs.List.{flat_map}
use Rattle.cc_wire.specs.Writers.{Writes}
use Rattle.cc_node_state.specs.States.{ask_spelling}
use Rattle.cc_node_state.proofs.state_writer.put_asks.Given as goal

abbrev pub invariant-loop-asked : goal.invariant-loop-asked
invariant-loop-asked l = Writes l.fn.out l.out (flat_map ask_spelling (take l.asked-index l.asks)) (Ok tt)
