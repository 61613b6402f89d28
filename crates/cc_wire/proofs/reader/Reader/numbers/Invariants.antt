use Rattle.std.proofs.Common.{◌≡◌, ◌-◌, ◌<◌, ◌≤◌, length}
use Rattle.std.specs.List.{AllByRecursion}
use Rattle.cc_views.specs.AscendingLists.{IsAscending}
use Rattle.cc_wire.specs.Readers.{numbers_at}
use Rattle.cc_wire.proofs.Items.{with_front}
use Rattle.cc_wire.proofs.reader.Reader.numbers.Given as goal

abbrev pub invariant-loop : goal.invariant-loop
invariant-loop g l = let items = g.S.AscendingSet.items l.set in record {
  so_far : with_front items (numbers_at (l.count - l.counter) l.least l.self) ≡ numbers_at l.count g.S.AscendingSet.LEAST l.fn.self;
  length : length items ≡ l.counter;
  below : AllByRecursion (λ n. n < l.least) items;
  ascending : IsAscending items;
  room : l.count ≤ g.S.AscendingSet.room l.set;
  least : g.S.AscendingSet.LEAST ≤ l.least;
}
