use Rattle.cc_wire.proofs.Writes.{writes_then}
use Rattle.cc_wire.proofs.event.put_place.Goals as goal

pub returns-clause-writes : goal.returns-clause-writes
returns-clause-writes c =
    writes_then c.args.out.now c.put_u64.new.out c.put_u64-2.new.out _ _ c.put_u64-2.result c.in_ok-put_u64.ensures c.put_u64-2.ensures
