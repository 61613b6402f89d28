use Rattle.cc_node_state.proofs.TableReads.{err_is}
use Rattle.cc_node_state.proofs.field_reader.read_answer_table.Goals as goal

pub read_kept_answers-requires : goal.read_kept_answers-requires
read_kept_answers-requires g c = g.met.S.Source.lies_on _ _ _ _ c.in_ok-count.ensures.run

pub returns-in_err-count-clause-run : goal.returns-in_err-count-clause-run
returns-in_err-count-clause-run g c = rw (err_is c.from_residual.result c.from_residual.ensures.1) c.in_err-count.ensures.run

pub returns-in_err-count-clause-rising : goal.returns-in_err-count-clause-rising
returns-in_err-count-clause-rising g c = rw (err_is c.from_residual.result c.from_residual.ensures.1) tt

pub returns-clause-run : goal.returns-clause-run
returns-clause-run g c = g.met.S.Source.goes_on _ _ _ _ _ _ _ c.in_ok-count.ensures.run c.read_kept_answers.ensures.run

pub returns-clause-rising : goal.returns-clause-rising
returns-clause-rising g c = c.read_kept_answers.ensures.rising
