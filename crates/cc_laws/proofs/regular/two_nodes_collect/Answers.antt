use Rattle.std.proofs.Common.{arith, refl}
use Rattle.cc_laws.proofs.TwoNodes.{view}
use Rattle.cc_laws.proofs.WorkedRun.{start, mid, end, first_moves, second_moves, to_mid, to_end, first_stay, second_stay}
use Rattle.cc_laws.proofs.WorkedRun.{is_fresh, is_fixed, is_stored, is_ahead, is_answered, shares}
use Rattle.cc_laws.proofs.regular.two_nodes_collect.Goals as goal

pub returns : goal.returns
returns g = (
  start,
  mid,
  end,
  first_moves,
  second_moves,
  view,
  is_fresh,
  to_mid.run,
  to_end.run,
  is_fixed,
  first_stay,
  second_stay,
  is_stored,
  is_ahead,
  is_answered,
  shares,
  (3, omega arith, refl),
  (9, omega arith, refl),
  (12, omega arith, refl),
  (16, omega arith, refl),
)
