use Rattle.cc_wire.proofs.Writes.{writes_then}
use Rattle.cc_connections.proofs.hello.put_quorum.Goals as goal

pub returns-clause-writes : goal.returns-clause-writes
returns-clause-writes c =
    rw (← c.share-share.ensures.share)
    (writes_then c.args.out.now c.put_u32.new.out c.put_u32-2.new.out _ _ c.put_u32-2.result c.in_ok-put_u32.ensures c.put_u32-2.ensures)
