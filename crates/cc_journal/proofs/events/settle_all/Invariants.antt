use Rattle.std.proofs.Common.{◌≡◌}
use Rattle.std.specs.Prelude.{◌↔◌}
use Rattle.std.specs.Vec.Iter.{into_iter_items}
use Rattle.cc_node.specs.Node.{after, IsLawful}
use Rattle.cc_journal.proofs.events.settle_all.Given as goal

abbrev pub invariant-loop-event : goal.invariant-loop-event
invariant-loop-event l = record {
  next : (goal.iterator-loop-event).can_next l.event-iterator;
  finite : (goal.iterator-loop-event).is_finite l.event-iterator;
  leads : after l.node (into_iter_items l.event-iterator) ≡ after l.fn.node l.fn.events.items;
  lawful : IsLawful l.node (into_iter_items l.event-iterator) ↔ IsLawful l.fn.node l.fn.events.items;
}
