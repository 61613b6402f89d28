use Rattle.std.proofs.lemmas.Result.{err_from_is_err_and}
use Rattle.cc_wire.proofs.Writes.{each_stops, each_more}
use Rattle.cc_node_state.specs.States.{ask_spelling}
use Rattle.cc_node_state.proofs.state_writer.put_asks.Goals as goal

pub returns-in_err-put_ask : goal.returns-in_err-put_ask
returns-in_err-put_ask c =
    let p = err_from_is_err_and c.from_residual.result c.from_residual.ensures.1 in
    rw p.1 (each_stops ask_spelling _ _ _ _ _ _ _ _ c.loop-asked-test.true c.asked-item.is c.loop-asked.invariant c.in_err-put_ask.ensures)

pub loop-asked-preserved : goal.loop-asked-preserved
loop-asked-preserved c = each_more ask_spelling _ _ _ _ _ _ c.loop-asked-test.true c.asked-item.is c.loop-asked.invariant c.in_ok-put_ask.ensures
