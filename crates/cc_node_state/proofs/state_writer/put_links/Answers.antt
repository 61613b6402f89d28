use Rattle.std.proofs.lemmas.Result.{err_from_is_err_and}
use Rattle.cc_wire.proofs.Writes.{each_stops, each_more}
use Rattle.cc_links.specs.Rows.{entry_of}
use Rattle.cc_node_state.specs.States.{link_spelling}
use Rattle.cc_node_state.proofs.state_writer.put_links.Goals as goal

pub returns-in_err-put_link : goal.returns-in_err-put_link
returns-in_err-put_link c =
    let p = err_from_is_err_and c.from_residual.result c.from_residual.ensures.1 in
    rw p.1 (each_stops (λ row. link_spelling (entry_of row)) _ _ _ _ _ _ _ _ c.loop-row-test.true c.row-item.is c.loop-row.invariant c.in_err-put_link.ensures)

pub loop-row-preserved : goal.loop-row-preserved
loop-row-preserved c =
    each_more (λ row. link_spelling (entry_of row)) _ _ _ _ _ _ c.loop-row-test.true c.row-item.is c.loop-row.invariant c.in_ok-put_link.ensures
