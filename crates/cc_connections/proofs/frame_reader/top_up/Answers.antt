use Rattle.std.proofs.lemmas.List.{take_rest}
use Rattle.std.proofs.lemmas.Result.{err_from_is_err_and}
use Rattle.cc_connections.proofs.Fronts.{topped_refused, topped_up}
use Rattle.cc_connections.proofs.frame_reader.top_up.Goals as goal

pub returns-in_err-goal-clause-err : goal.returns-in_err-goal-clause-err
returns-in_err-goal-clause-err c =
    let p = err_from_is_err_and c.from_residual.result c.from_residual.ensures.1 in
    rw (p.1, p.2) (topped_refused c.args.held.now.items c.args.piece.now c.add_up_to-first.new.held.items c.add_up_to-first.result _
    c.add_up_to-first.ensures.held (rw c.deref.ensures.value at c.in_err-goal.ensures.exact))

pub returns-clause-ok : goal.returns-clause-ok
returns-clause-ok c =
    let behind = take_rest c.args.piece.now c.add_up_to-first.result in
    topped_up c.args.held.now.items c.args.piece.now c.add_up_to-first.new.held.items c.add_up_to-more.new.held.items c.add_up_to-first.result
    c.in_ok-goal.goal c.add_up_to-more.result
    c.requires.partial c.add_up_to-first.ensures.used c.add_up_to-first.ensures.held (rw c.deref.ensures.value at c.in_ok-goal.ensures.exact)
    (rw behind at c.add_up_to-more.ensures.used) (rw behind at c.add_up_to-more.ensures.held)
