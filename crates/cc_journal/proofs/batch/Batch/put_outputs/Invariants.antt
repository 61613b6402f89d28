use Rattle.std.proofs.Common.{◌≡◌}
use Rattle.arrayvec.specs.Iter.{drain_items, DrainKeeps}
use Rattle.cc_node.specs.Node.{after, line}
use Rattle.cc_journal.specs.Batches.{AreLawful, events_in}
use Rattle.cc_journal.proofs.Puts.{HasPut}
use Rattle.cc_journal.proofs.batch.Batch.put_outputs.Given as goal

abbrev pub invariant-loop-entry : goal.invariant-loop-entry
invariant-loop-entry g l =
    let left = drain_items l.entry-iterator in
    record {
      can : (goal.iterator-loop-entry g).can_next l.entry-iterator;
      ends : (goal.iterator-loop-entry g).is_finite l.entry-iterator;
      keeps : DrainKeeps l.initial.entry-iterator l.entry-iterator;
      leads : after l.node (events_in left) ≡ after l.fn.node (events_in l.fn.self);
      lawful : AreLawful l.node left;
      put : HasPut g.S.Site l.fn.site l.site (line l.fn.node (events_in l.fn.self)) (line l.node (events_in left));
    }
