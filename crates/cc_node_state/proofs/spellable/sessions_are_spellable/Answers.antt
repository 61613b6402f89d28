use Rattle.std.proofs.Common.{refl}
use Rattle.cc_sessions.specs.Rows.{entry_of, row_of}
use Rattle.cc_node_state.specs.States.{IsSession}
use Rattle.cc_node_state.proofs.TableWrites.{table_fits}
use Rattle.cc_node_state.proofs.spellable.sessions_are_spellable.Goals as goal

pub returns : goal.returns
returns c = table_fits entry_of row_of refl IsSession 256 _ _ c.rows.ensures.rows c.rows.ensures.fits c.session_rows_are_spellable.ensures
