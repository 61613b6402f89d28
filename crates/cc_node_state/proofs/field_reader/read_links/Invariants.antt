use Rattle.std.specs.Prelude.{◌≤◌, None}
use Rattle.cc_links.specs.Rows.{entry_of}
use Rattle.cc_node_state.specs.States.{rows_at, link_at}
use Rattle.cc_node_state.proofs.TableReads.{RowsRead}
use Rattle.cc_node_state.proofs.field_reader.read_links.Given as goal

abbrev pub invariant-loop : goal.invariant-loop
invariant-loop g l =
    let s = g.S.Source in
    let total = rows_at link_at l.count 1 (s.ahead l.fn.device l.fn.piece l.fn.source) in
    record {
      run : s.runs l.fn.device l.fn.source l.device l.source None;
      read : RowsRead entry_of link_at (s.honest l.fn.device) l.count total l.counter l.least (s.ahead l.device l.piece l.source) l.rows.items;
      least : 1 ≤ l.least;
    }
