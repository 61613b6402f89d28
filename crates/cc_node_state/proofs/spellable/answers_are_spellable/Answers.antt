use Rattle.std.proofs.Common.{refl}
use Rattle.cc_outbox.specs.Rows.{entry_of, row_of}
use Rattle.cc_node_state.specs.States.{IsKeptAnswer}
use Rattle.cc_node_state.proofs.TableWrites.{table_fits}
use Rattle.cc_node_state.proofs.spellable.answers_are_spellable.Goals as goal

pub returns : goal.returns
returns c = table_fits entry_of row_of refl IsKeptAnswer 256 _ _ c.answers.ensures.answers c.answers.ensures.fits c.answer_rows_are_spellable.ensures
