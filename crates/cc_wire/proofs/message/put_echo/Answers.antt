use Rattle.cc_wire.proofs.Writes.{writes_then}
use Rattle.cc_wire.proofs.message.put_echo.Goals as goal

pub returns-clause-writes : goal.returns-clause-writes
returns-clause-writes c =
    let r = c.put_id.result in
    let end = c.put_id.new.out in
    let flag = writes_then c.put_view.new.out c.put_flag.new.out end _ _ r c.in_ok-put_flag.ensures c.put_id.ensures.writes in
    let view = writes_then c.put_changes.new.out c.put_view.new.out end _ _ r c.in_ok-put_view.ensures.writes flag in
    writes_then c.args.out.now c.put_changes.new.out end _ _ r c.in_ok-put_changes.ensures.writes view
