use Rattle.std.proofs.Common.{refl}
use Rattle.cc_laws.proofs.EntrantRun.{start, is_fresh, began, is_entrant_at_start}
use Rattle.cc_laws.proofs.SharingRun.{end, moves, first_9, by_9, by_10, is_run, has_share, meet, one_round, before_9, before_10, is_written}
use Rattle.cc_laws.proofs.SharingRun.{first_rows, late_rows, first_max, late_max}
use Rattle.cc_laws.proofs.double_collects.clients_of_a_round_take_snapshots.Goals as goal

pub returns : goal.returns
returns g = (
  start,
  end,
  moves,
  first_9,
  by_9,
  by_10,
  began,
  is_fresh,
  is_run,
  has_share,
  is_entrant_at_start,
  refl,
  meet,
  (refl, refl, refl),
  (refl, refl, refl),
  (refl, refl, refl),
  one_round,
  before_9,
  before_10,
  is_written,
  first_rows,
  late_rows,
  refl,
  first_max,
  late_max,
)
