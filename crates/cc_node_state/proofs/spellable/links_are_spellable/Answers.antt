use Rattle.std.proofs.Common.{refl}
use Rattle.cc_links.specs.Rows.{entry_of, row_of}
use Rattle.cc_node_state.specs.States.{IsLink}
use Rattle.cc_node_state.proofs.TableWrites.{table_fits}
use Rattle.cc_node_state.proofs.spellable.links_are_spellable.Goals as goal

pub returns : goal.returns
returns c = table_fits entry_of row_of refl IsLink 256 _ _ c.rows.ensures.rows c.rows.ensures.fits c.link_rows_are_spellable.ensures
