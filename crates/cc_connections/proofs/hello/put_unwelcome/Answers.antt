use Rattle.cc_wire.proofs.Writes.{writes_then}
use Rattle.cc_connections.proofs.hello.put_unwelcome.Goals as goal

pub returns-clause-writes : goal.returns-clause-writes
returns-clause-writes c =
    rw (← c.reason_number.ensures)
    (writes_then c.args.out.now c.put_u8.new.out c.put_id.new.out _ _ c.put_id.result c.in_ok-put_u8.ensures c.put_id.ensures.writes)
