use Rattle.std.proofs.lemmas.Result.{err_from_is_err_and}
use Rattle.cc_connections.proofs.Fronts.{fails_at_front}
use Rattle.cc_connections.proofs.frame_reader.whole_frame.Goals as goal

pub returns-in_err-goal : goal.returns-in_err-goal
returns-in_err-goal c =
    let p = err_from_is_err_and c.from_residual.result c.from_residual.ensures.1 in
    rw (p.1, p.2) (fails_at_front c.args.held.now _ c.in_err-goal.ensures.exact)
