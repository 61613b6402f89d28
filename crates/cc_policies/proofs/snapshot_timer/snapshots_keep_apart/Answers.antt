use Rattle.cc_policies.proofs.SnapshotTimerLaws.{keep_apart}
use Rattle.cc_policies.proofs.snapshot_timer.snapshots_keep_apart.Goals as goal

pub returns : goal.returns
returns c = keep_apart
