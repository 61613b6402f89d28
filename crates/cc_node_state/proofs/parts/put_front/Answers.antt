use Rattle.cc_wire.proofs.Writes.{writes_then}
use Rattle.cc_node_state.proofs.parts.put_front.Goals as goal

pub returns : goal.returns
returns c =
    let sessions = writes_then _ _ _ _ _ _ c.in_ok-put_session_table.ensures c.put_u16.ensures in
    let all = writes_then _ _ _ _ _ _ c.in_ok-put_u64.ensures (writes_then _ _ _ _ _ _ c.in_ok-put_link_table.ensures sessions) in
    rw (c.posts.ensures, c.links.ensures, c.sessions.ensures) at all
