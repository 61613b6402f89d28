use Rattle.std.proofs.Common.{◌∷◌, []}
use Rattle.cc_wire.proofs.Writes.{writes_then}
use Rattle.cc_connections.proofs.frame.put_reply_body.Goals as goal

pub returns-clause-writes : goal.returns-clause-writes
returns-clause-writes c =
    writes_then c.args.out.now c.put_u8.new.out c.put_replied.new.out (4 ∷ []) _ c.put_replied.result c.in_ok-put_u8.ensures c.put_replied.ensures.writes
