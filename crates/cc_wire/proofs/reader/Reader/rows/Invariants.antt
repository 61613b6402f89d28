use Rattle.std.proofs.Common.{◌≡◌, ◌-◌, ◌<◌, ◌≤◌, length}
use Rattle.std.specs.List.{AllByRecursion}
use Rattle.cc_views.specs.Rows.{rows_of}
use Rattle.cc_wire.specs.Readers.{rows_at}
use Rattle.cc_wire.proofs.Items.{with_front}
use Rattle.cc_wire.proofs.reader.Reader.rows.Given as goal

abbrev pub invariant-loop : goal.invariant-loop
invariant-loop l = record {
  so_far : with_front (rows_of l.view) (rows_at (l.count - l.counter) l.least l.self) ≡ rows_at l.count 1 l.fn.self;
  length : length (rows_of l.view) ≡ l.counter;
  below : AllByRecursion (λ r. r.node < l.least) (rows_of l.view);
  least : 1 ≤ l.least;
}
