use Rattle.cc_wire.proofs.Writes.{writes_then}
use Rattle.cc_wire.proofs.event.put_ends.Goals as goal

pub returns : goal.returns
returns c =
    writes_then c.args.out.now c.put_u64.new.out c.put_u64-2.new.out _ _ c.put_u64-2.result c.in_ok-put_u64.ensures c.put_u64-2.ensures
