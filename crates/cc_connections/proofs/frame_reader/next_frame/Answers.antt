use Rattle.std.proofs.lemmas.Result.{err_from_is_err_and}
use Rattle.cc_connections.proofs.Feeds.{given, fails_given}
use Rattle.cc_connections.proofs.frame_reader.next_frame.Goals as goal

pub returns-in_err-frame-clause-exact : goal.returns-in_err-frame-clause-exact
returns-in_err-frame-clause-exact c =
    let p = err_from_is_err_and c.from_residual-in_err-frame.result c.from_residual-in_err-frame.ensures.1 in
    rw (p.1, p.2) (fails_given c.args.held.now.items c.args.piece.now c.top_up.new.held.items c.in_ok-used.used c.in_ok-used.ensures.ok _
    (rw c.deref.ensures.value at c.in_err-frame.ensures))

pub returns-clause-exact : goal.returns-clause-exact
returns-clause-exact c =
    given c.args.held.now.items c.args.piece.now c.top_up.new.held.items c.in_ok-used.used c.in_ok-used.ensures.ok c.in_ok-frame.frame
    (rw c.deref.ensures.value at c.in_ok-frame.ensures)
