use Rattle.std.proofs.Common.{refl}
use Rattle.cc_sessions.specs.Rows.{entry_of, row_of}
use Rattle.cc_node_state.specs.States.{session_spelling}
use Rattle.cc_node_state.proofs.TableWrites.{table_writes}
use Rattle.cc_node_state.proofs.state_writer.put_session_table.Goals as goal

pub returns : goal.returns
returns c = table_writes entry_of row_of refl session_spelling _ _ _ _ _ _ c.rows-rows.ensures.rows c.in_ok-put_u16.ensures c.put_sessions.ensures
