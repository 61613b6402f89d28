use Rattle.std.proofs.Common.{◌≡◌, false}
use Rattle.cc_node.specs.Node.{after}
use Rattle.cc_journal.specs.Batches.{AreLawful, events_in}
use Rattle.cc_bench.proofs.engine_bench.take_all.Given as goal

abbrev pub invariant-loop-event : goal.invariant-loop-event
invariant-loop-event g l = record {
  owes : l.engine.owes ≡ false;
  lawful : AreLawful l.engine.twin l.batch;
  live : l.live ≡ (after l.engine.twin (events_in l.batch)).core;
}
