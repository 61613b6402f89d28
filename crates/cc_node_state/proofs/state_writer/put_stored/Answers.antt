use Rattle.cc_wire.proofs.Writes.{writes_then}
use Rattle.cc_node_state.proofs.state_writer.put_stored.Goals as goal

pub returns : goal.returns
returns c =
    let value = writes_then _ _ _ _ _ _ c.in_ok-put_value.ensures.writes c.put_u64-2.ensures in
    writes_then _ _ _ _ _ _ c.in_ok-put_view.ensures.writes (writes_then _ _ _ _ _ _ c.in_ok-put_u64.ensures value)
