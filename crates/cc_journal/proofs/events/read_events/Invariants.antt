use Rattle.std.proofs.Common.{◌≡◌, ◌≤◌, length, drop}
use Rattle.cc_journal.proofs.EventReadLaws.{IsRead}
use Rattle.cc_journal.proofs.events.read_events.Given as goal

abbrev pub invariant-loop : goal.invariant-loop
invariant-loop l = record {
  is_read : IsRead (drop 1 l.fn.bytes) (drop l.place l.fn.bytes) l.events.items;
  count : length l.events.items ≡ l.counter;
  within : l.counter ≤ l.end;
  inside : l.place ≤ length l.fn.bytes;
}
