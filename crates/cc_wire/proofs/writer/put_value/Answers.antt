use Rattle.cc_wire.proofs.Writes.{writes_then}
use Rattle.cc_wire.proofs.writer.put_value.Goals as goal

pub returns-clause-writes : goal.returns-clause-writes
returns-clause-writes c =
    let r = c.put_number_set.result in
    let end = c.put_number_set.new.out in
    let flag = writes_then c.put_u64.new.out c.put_flag.new.out end _ _ r c.in_ok-put_flag.ensures c.put_number_set.ensures.writes in
    let max = writes_then c.put_text.new.out c.put_u64.new.out end _ _ r c.in_ok-put_u64.ensures flag in
    writes_then c.args.out.now c.put_text.new.out end _ _ r c.in_ok-put_text.ensures.writes max
