use Rattle.std.proofs.lemmas.Result.{err_from_is_err_and}
use Rattle.cc_command_line.proofs.SaidLines.{first_fault, peers_more}
use Rattle.cc_command_line.proofs.peer_lines.peers_on.Goals as goal

pub returns-in_err-take_line-clause-fault : goal.returns-in_err-take_line-clause-fault
returns-in_err-take_line-clause-fault c =
    let p = err_from_is_err_and c.from_residual.result c.from_residual.ensures.1 in
    rw (p.1, p.2) (first_fault (λ l. l.now) c.args.lines.now c.loop-i.i _ c.loop-i.peers.items c.in_err-take_line.field-0.0 c.loop-i-test.true
    c.in_err-take_line.ensures.fault c.loop-i.invariant)

pub loop-i-preserved : goal.loop-i-preserved
loop-i-preserved c = peers_more (λ l. l.now) c.args.lines.now c.loop-i.i _ c.take_line.new.peers.items c.loop-i-test.true
    (c.in_ok-take_line.ensures.peers _ c.loop-i.invariant)
