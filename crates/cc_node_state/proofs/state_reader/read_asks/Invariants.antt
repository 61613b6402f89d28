use Rattle.std.proofs.Common.{◌≡◌, ◌-◌, length}
use Rattle.cc_wire.proofs.Items.{with_front}
use Rattle.cc_node_state.specs.States.{asks_at}
use Rattle.cc_node_state.proofs.state_reader.read_asks.Given as goal

abbrev pub invariant-loop : goal.invariant-loop
invariant-loop l = record {
  so_far : with_front l.line (asks_at (l.count - l.counter) l.reader) ≡ asks_at l.count l.fn.reader;
  length : length l.line ≡ l.counter;
}
