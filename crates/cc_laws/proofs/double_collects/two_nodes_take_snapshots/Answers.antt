use Rattle.std.proofs.Common.{refl}
use Rattle.cc_laws.proofs.SnapshotRun.{start, end, moves, by_9, by_10, is_fresh, is_run, has_share, is_fixed, all_stay, meet, set_between, is_added, is_set}
use Rattle.cc_laws.proofs.SnapshotRun.{early_rows, late_rows, early_member, early_flag, late_member, late_flag}
use Rattle.cc_laws.proofs.double_collects.two_nodes_take_snapshots.Goals as goal

pub returns : goal.returns
returns g = (
  start,
  end,
  moves,
  by_9,
  by_10,
  is_fresh,
  is_run,
  has_share,
  is_fixed,
  all_stay,
  meet,
  (refl, refl, refl),
  (refl, refl, refl),
  set_between,
  is_added,
  is_set,
  early_rows,
  late_rows,
  early_member,
  early_flag,
  late_member,
  late_flag,
)
