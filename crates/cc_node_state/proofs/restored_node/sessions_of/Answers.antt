use Rattle.std.proofs.Common.{arith}
use Rattle.cc_sessions.specs.Rows.{entry_of}
use Rattle.cc_node_state.proofs.Restored.{row_came, all_in, room_for_session, fewer}
use Rattle.cc_node_state.proofs.restored_node.sessions_of.Goals as goal

pub loop-row-init : goal.loop-row-init
loop-row-init c = record { parts = c.into_iter-row-iterator.ensures.into_iter_gives.0; table = c.in_ok-sessions.ensures.empty }

pub begin-requires : goal.begin-requires
begin-requires c = room_for_session _ _ (fewer entry_of c.requires.rising c.in-Some.ensures.steps.0 c.loop-row.invariant 256 c.requires.few)

pub loop-row-preserved : goal.loop-row-preserved
loop-row-preserved c = row_came entry_of c.requires.rising c.in-Some.ensures.steps.0 c.loop-row.invariant c.begin.ensures

pub returns : goal.returns
returns c = all_in entry_of c.loop-row.invariant (omega (arith, c.in-None.ensures.steps.0, c.loop-row.row-iterator.rest.ok))
