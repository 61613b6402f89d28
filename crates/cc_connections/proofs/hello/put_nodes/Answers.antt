use Rattle.cc_wire.proofs.Writes.{writes_then}
use Rattle.cc_connections.proofs.hello.put_nodes.Goals as goal

pub returns-clause-writes : goal.returns-clause-writes
returns-clause-writes c =
    writes_then c.args.out.now c.put_id.new.out c.put_id-2.new.out _ _ c.put_id-2.result c.in_ok-put_id.ensures.writes c.put_id-2.ensures.writes
