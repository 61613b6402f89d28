use Rattle.cc_wire.proofs.Writes.{writes_then}
use Rattle.cc_node_state.proofs.state_writer.put_profile.Goals as goal

pub returns : goal.returns
returns c =
    writes_then _ _ _ _ _ _ c.in_ok-put_id.ensures.writes
    (writes_then _ _ _ _ _ _ c.in_ok-put_fraction.ensures (writes_then _ _ _ _ _ _ c.in_ok-put_fraction-2.ensures c.put_changes.ensures.writes))
