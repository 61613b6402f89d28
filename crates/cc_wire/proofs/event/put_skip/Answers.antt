use Rattle.cc_wire.proofs.Writes.{writes_then}
use Rattle.cc_wire.proofs.event.put_skip.Goals as goal

pub returns-clause-writes : goal.returns-clause-writes
returns-clause-writes c =
    rw (← c.first.ensures.first, ← c.last.ensures.last)
    (writes_then c.args.out.now c.put_id.new.out c.put_ends.new.out _ _ c.put_ends.result c.in_ok-put_id.ensures.writes c.put_ends.ensures)
