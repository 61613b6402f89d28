use Rattle.std.proofs.Common.{rules, refl}
use Rattle.cc_outbox.specs.Rows.{entry_of}
use Rattle.cc_wire.proofs.Items.{is_done}
use Rattle.cc_node_state.specs.States.{kept_answer_at}
use Rattle.cc_node_state.proofs.TableReads.{err_is, row_read}
use Rattle.cc_node_state.proofs.SourceLaws.{misses_along}
use Rattle.cc_node_state.proofs.field_reader.read_kept_answers.Goals as goal

pub loop-init : goal.loop-init
loop-init g c = record {
  run = g.met.S.Source.starts _ _ c.requires;
  read = record { so_far = λ _. search rules; length = search rules; below = search rules; rising = search rules };
}

pub returns-in_err-kept-clause-exact : goal.returns-in_err-kept-clause-exact
returns-in_err-kept-clause-exact g c =
    rw (err_is c.from_residual.result c.from_residual.ensures.1) (λ honest.
    misses_along g.S.Source.told kept_answer_at (λ e. e.0) _ _ _ _ _ _ _ c.loop-test.true
    (c.in_err-kept.ensures.exact (g.met.S.Source.honest_on _ _ _ _ c.loop.invariant.run honest)) (c.loop.invariant.read.so_far honest))

pub loop-preserved : goal.loop-preserved
loop-preserved g c =
    let read = λ (honest : g.S.Source.honest c.args.device.now). c.in_ok-kept.ensures.exact (g.met.S.Source.honest_on _ _ _ _ c.loop.invariant.run honest) in
    rw (c.in_ok-push.ensures.items, c.from-least.ensures) (record {
      run = g.met.S.Source.goes_on _ _ _ _ _ _ _ c.loop.invariant.run c.in_ok-kept.ensures.run;
      read = row_read entry_of kept_answer_at c.loop-test.true read c.in_ok-kept.ensures.least c.loop.invariant.read;
    })

pub returns-clause-exact : goal.returns-clause-exact
returns-clause-exact g c = λ honest. is_done kept_answer_at (λ e. e.0) _ _ _ _ _ _ c.loop-test.false (c.loop.invariant.read.so_far honest)

pub returns-in_err-kept-clause-run : goal.returns-in_err-kept-clause-run
returns-in_err-kept-clause-run g c =
    rw (err_is c.from_residual.result c.from_residual.ensures.1) (g.met.S.Source.goes_on _ _ _ _ _ _ _ c.loop.invariant.run c.in_err-kept.ensures.run)

pub kept_answer-requires : goal.kept_answer-requires
kept_answer-requires g c = record { lies = g.met.S.Source.lies_on _ _ _ _ c.loop.invariant.run }

pub returns-in_err-kept-clause-rising : goal.returns-in_err-kept-clause-rising
returns-in_err-kept-clause-rising g c = rw (err_is c.from_residual.result c.from_residual.ensures.1) tt

pub returns-in_err-push-clause-rising : goal.returns-in_err-push-clause-rising
returns-in_err-push-clause-rising g c = rw (err_is c.from_residual-in_err-push.result c.from_residual-in_err-push.ensures.1) tt

pub returns-in_err-push-clause-exact : goal.returns-in_err-push-clause-exact
returns-in_err-push-clause-exact g c = rw (err_is c.from_residual-in_err-push.result c.from_residual-in_err-push.ensures.1) (λ honest some. absurd (some refl))

pub returns-in_err-push-clause-run : goal.returns-in_err-push-clause-run
returns-in_err-push-clause-run g c =
    rw (err_is c.from_residual-in_err-push.result c.from_residual-in_err-push.ensures.1) (
    g.met.S.Source.goes_on _ _ _ _ _ _ _ c.loop.invariant.run c.in_ok-kept.ensures.run)

pub returns-clause-run : goal.returns-clause-run
returns-clause-run g c = c.loop.invariant.run

pub returns-clause-rising : goal.returns-clause-rising
returns-clause-rising g c = c.loop.invariant.read.rising
