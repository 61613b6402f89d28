use Rattle.cc_wire.specs.Readers.{whole}
use Rattle.cc_node_state.proofs.TableReads.{err_is}
use Rattle.cc_node_state.proofs.SourceLaws.{misses_then}
use Rattle.cc_node_state.proofs.field_reader.read_whole.Goals as goal

pub returns-in_err-fields-clause-exact : goal.returns-in_err-fields-clause-exact
unfolding whole
returns-in_err-fields-clause-exact g c =
    rw (err_is c.from_residual.result c.from_residual.ensures.1) (λ honest. misses_then _ _ _ _ (c.in_err-fields.ensures.exact honest))

pub returns-in_err-fields-clause-run : goal.returns-in_err-fields-clause-run
returns-in_err-fields-clause-run g c = rw (err_is c.from_residual.result c.from_residual.ensures.1) c.in_err-fields.ensures.run

pub returns-in_err-fields-clause-read : goal.returns-in_err-fields-clause-read
returns-in_err-fields-clause-read g c = rw (err_is c.from_residual.result c.from_residual.ensures.1) tt

pub returns-clause-run : goal.returns-clause-run
returns-clause-run g c = c.in_ok-fields.ensures.run

pub returns-clause-read : goal.returns-clause-read
returns-clause-read g c = c.in_ok-fields.ensures.read
