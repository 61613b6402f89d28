use Rattle.std.proofs.lemmas.List.{get_or_default}
use Rattle.std.proofs.lemmas.Result.{err_from_is_err_and}
use Rattle.cc_wire.proofs.Writes.{each_stops, each_more}
use Rattle.cc_sessions.specs.Rows.{entry_of}
use Rattle.cc_node_state.specs.States.{session_spelling}
use Rattle.cc_node_state.proofs.state_writer.put_sessions.Goals as goal

pub returns-in_err-put_session : goal.returns-in_err-put_session
returns-in_err-put_session c =
    let p = err_from_is_err_and c.from_residual.result c.from_residual.ensures.1 in
    let is = get_or_default c.args.rows.now c.loop-row.row-index (record { session = 0; last = 0 }) _ c.loop-row-test.true in
    rw p.1 (each_stops (λ row. session_spelling (entry_of row)) _ _ _ _ _ _ _ _ c.loop-row-test.true is c.loop-row.invariant c.in_err-put_session.ensures)

pub loop-row-preserved : goal.loop-row-preserved
loop-row-preserved c =
    let is = get_or_default c.args.rows.now c.loop-row.row-index (record { session = 0; last = 0 }) _ c.loop-row-test.true in
    each_more (λ row. session_spelling (entry_of row)) _ _ _ _ _ _ c.loop-row-test.true is c.loop-row.invariant c.in_ok-put_session.ensures
