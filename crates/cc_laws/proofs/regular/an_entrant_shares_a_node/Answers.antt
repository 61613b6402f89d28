use Rattle.std.proofs.Common.{refl}
use Rattle.cc_laws.proofs.TwoNodes.{view}
use Rattle.cc_laws.proofs.EntrantRun.{start, mid, end, first_moves, second_moves, to_mid, to_end, is_fresh, is_stored, is_ahead, is_answered}
use Rattle.cc_laws.proofs.EntrantRun.{share_node, is_entrant, later}
use Rattle.cc_laws.proofs.regular.an_entrant_shares_a_node.Goals as goal

pub returns : goal.returns
returns g = (
  start,
  mid,
  end,
  first_moves,
  second_moves,
  later,
  view,
  is_fresh,
  to_mid.run,
  to_end.run,
  is_stored,
  is_ahead,
  share_node,
  is_answered,
  is_entrant,
  refl,
)
