use Rattle.cc_wire.proofs.Writes.{writes_then}
use Rattle.cc_connections.proofs.hello.put_quorums.Goals as goal

pub returns-clause-writes : goal.returns-clause-writes
returns-clause-writes c =
    writes_then c.args.out.now c.put_quorum.new.out c.put_quorum-2.new.out _ _ c.put_quorum-2.result c.in_ok-put_quorum.ensures.writes
    c.put_quorum-2.ensures.writes
