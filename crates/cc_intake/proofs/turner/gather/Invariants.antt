use Rattle.std.proofs.Common.{◌≡◌, ◌≤◌, ◌-◌, List, ◌++◌, length}
use Rattle.cc_journal.specs.declared.entry.Entry.{Entry}
use Rattle.cc_journal.specs.Batches.{AreLawful}
use Rattle.cc_intake.specs.Histories.{life_limit}
use Rattle.cc_intake.specs.Turners.{listed}
use Rattle.cc_intake.proofs.turner.gather.Given as goal

abbrev pub invariant-loop-consumer : goal.invariant-loop-consumer
invariant-loop-consumer g l =
    ((more : List Entry) × (l.consumer.entries ≡ l.fn.consumer.entries ++ more) × (listed l.fn.kept ++ more ≡ l.batch))
    × (l.consumer.finds ≡ l.fn.consumer.finds) × (length l.batch ≤ 64) × AreLawful g.L.Life.opening l.consumer.entries
    × (length l.consumer.entries ≤ life_limit)

abbrev pub decreases-loop-consumer : goal.decreases-loop-consumer
decreases-loop-consumer g l = 64 - length l.batch
