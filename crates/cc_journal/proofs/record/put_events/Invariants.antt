use Rattle.std.proofs.Common.{◌≡◌, ◌≤◌, ◌+◌, ◌++◌, length, drop}
use Rattle.std.specs.List.{AllByRecursion}
use Rattle.std.specs.Vec.{vec_capacity}
use Rattle.cc_wire.specs.Events.{IsEvent}
use Rattle.cc_journal.specs.Batches.{events_in}
use Rattle.cc_journal.proofs.Records.{sized}
use Rattle.cc_journal.proofs.record.put_events.Given as goal

abbrev pub invariant-loop-entry : goal.invariant-loop-entry
invariant-loop-entry l = record {
  bytes : l.text.items ++ sized (drop l.entry-index l.entries) ≡ l.fn.text.items ++ sized l.entries;
  spelled : AllByRecursion IsEvent (events_in (drop l.entry-index l.entries)) → AllByRecursion IsEvent (events_in l.entries);
  room : length l.text.items + length (sized (drop l.entry-index l.entries)) ≤ vec_capacity l.text;
  grows : vec_capacity l.fn.text ≤ vec_capacity l.text;
}
