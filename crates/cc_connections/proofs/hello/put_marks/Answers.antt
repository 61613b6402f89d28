use Rattle.cc_wire.proofs.Writes.{writes_then}
use Rattle.cc_connections.proofs.hello.put_marks.Goals as goal

pub returns-clause-writes : goal.returns-clause-writes
returns-clause-writes c =
    writes_then c.args.out.now c.put_u64.new.out c.put_u64-3.new.out _ _ c.put_u64-3.result c.in_ok-put_u64.ensures
    (writes_then c.put_u64.new.out c.put_u64-2.new.out c.put_u64-3.new.out _ _ c.put_u64-3.result c.in_ok-put_u64-2.ensures c.put_u64-3.ensures)
