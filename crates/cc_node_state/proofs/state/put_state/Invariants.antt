use Rattle.std.proofs.Common.{take, Ok}
use Rattle.cc_wire.specs.Writers.{Writes}
use Rattle.cc_node_state.specs.Parts.{parts_of, joined}
use Rattle.cc_node_state.proofs.state.put_state.Given as goal

abbrev pub invariant-loop-at : goal.invariant-loop-at
invariant-loop-at l = Writes l.fn.out l.out (joined (take l.at (parts_of l.node))) (Ok tt)
