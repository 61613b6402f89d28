use Rattle.std.proofs.Common.{arith}
use Rattle.cc_views.specs.Tables.{table_of, len-table_of}
use Rattle.cc_sessions.specs.Rows.{entry_of}
use Rattle.cc_node_state.proofs.PartLaws.{length-session_table}
use Rattle.cc_checkpoint.proofs.elements.SessionsAtElement.len.Goals as goal

pub returns : goal.returns
returns c =
    let rows = c.args.found.now.items in
    omega (arith, length-session_table (table_of entry_of rows), len-table_of entry_of rows c.requires.0, c.len.ensures)
