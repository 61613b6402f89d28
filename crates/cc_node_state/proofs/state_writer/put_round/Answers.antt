use Rattle.std.proofs.Common.{◌∷◌, []}
use Rattle.cc_wire.proofs.Writes.{writes_then}
use Rattle.cc_node_state.proofs.state_writer.put_round.Goals as goal

pub returns : goal.returns
returns c = writes_then _ _ _ (c.args.kind ∷ []) _ _ c.in_ok-put_u8.ensures c.put_pending.ensures
