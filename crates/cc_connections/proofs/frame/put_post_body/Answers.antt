use Rattle.std.proofs.Common.{◌∷◌, []}
use Rattle.cc_wire.proofs.Writes.{writes_then}
use Rattle.cc_connections.proofs.frame.put_post_body.Goals as goal

pub returns-clause-writes : goal.returns-clause-writes
returns-clause-writes c =
    writes_then c.args.out.now c.put_u8.new.out c.put_spelled_delivery.new.out (1 ∷ []) _ c.put_spelled_delivery.result c.in_ok-put_u8.ensures c.put_spelled_delivery.ensures.writes
