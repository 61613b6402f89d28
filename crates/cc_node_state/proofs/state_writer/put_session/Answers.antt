use Rattle.cc_wire.proofs.Writes.{writes_then}
use Rattle.cc_node_state.proofs.state_writer.put_session.Goals as goal

pub returns : goal.returns
returns c = writes_then _ _ _ _ _ _ c.in_ok-put_u64.ensures c.put_u64-2.ensures
