use Rattle.std.proofs.Common.{rules, arith, refl}
use Rattle.cc_links.specs.Rows.{entry_of}
use Rattle.cc_wire.proofs.Items.{is_done}
use Rattle.cc_node_state.specs.States.{link_at}
use Rattle.cc_node_state.proofs.TableReads.{err_is, row_read}
use Rattle.cc_node_state.proofs.SourceLaws.{misses_along}
use Rattle.cc_node_state.proofs.field_reader.read_links.Goals as goal

pub loop-init : goal.loop-init
loop-init g c = record {
  run = g.met.S.Source.starts _ _ c.requires;
  read = record { so_far = λ _. search rules; length = search rules; below = search rules; rising = search rules };
  least = omega arith;
}

pub returns-in_err-row-clause-exact : goal.returns-in_err-row-clause-exact
returns-in_err-row-clause-exact g c =
    rw (err_is c.from_residual.result c.from_residual.ensures.1) (λ honest.
    misses_along g.S.Source.told link_at (λ e. e.0) _ _ _ _ _ _ _ c.loop-test.true
    (c.in_err-row.ensures.exact (g.met.S.Source.honest_on _ _ _ _ c.loop.invariant.run honest)) (c.loop.invariant.read.so_far honest))

pub loop-preserved : goal.loop-preserved
loop-preserved g c =
    let read = λ (honest : g.S.Source.honest c.args.device.now). c.in_ok-row.ensures.exact (g.met.S.Source.honest_on _ _ _ _ c.loop.invariant.run honest) in
    rw (c.in_ok-push.ensures.items, c.from-least.ensures, c.number.ensures.number) (record {
      run = g.met.S.Source.goes_on _ _ _ _ _ _ _ c.loop.invariant.run c.in_ok-row.ensures.run;
      read = row_read entry_of link_at c.loop-test.true read c.in_ok-row.ensures.least c.loop.invariant.read;
      least = omega arith;
    })

pub returns-clause-exact : goal.returns-clause-exact
returns-clause-exact g c = λ honest. is_done link_at (λ e. e.0) _ _ _ _ _ _ c.loop-test.false (c.loop.invariant.read.so_far honest)

pub returns-in_err-row-clause-run : goal.returns-in_err-row-clause-run
returns-in_err-row-clause-run g c =
    rw (err_is c.from_residual.result c.from_residual.ensures.1) (g.met.S.Source.goes_on _ _ _ _ _ _ _ c.loop.invariant.run c.in_err-row.ensures.run)

pub link-requires-clause-lies : goal.link-requires-clause-lies
link-requires-clause-lies g c = g.met.S.Source.lies_on _ _ _ _ c.loop.invariant.run

pub returns-in_err-row-clause-rising : goal.returns-in_err-row-clause-rising
returns-in_err-row-clause-rising g c = rw (err_is c.from_residual.result c.from_residual.ensures.1) tt

pub returns-in_err-push-clause-rising : goal.returns-in_err-push-clause-rising
returns-in_err-push-clause-rising g c = rw (err_is c.from_residual-in_err-push.result c.from_residual-in_err-push.ensures.1) tt

pub returns-in_err-push-clause-exact : goal.returns-in_err-push-clause-exact
returns-in_err-push-clause-exact g c = rw (err_is c.from_residual-in_err-push.result c.from_residual-in_err-push.ensures.1) (λ honest some. absurd (some refl))

pub returns-in_err-push-clause-run : goal.returns-in_err-push-clause-run
returns-in_err-push-clause-run g c =
    rw (err_is c.from_residual-in_err-push.result c.from_residual-in_err-push.ensures.1) (
    g.met.S.Source.goes_on _ _ _ _ _ _ _ c.loop.invariant.run c.in_ok-row.ensures.run)

pub returns-clause-run : goal.returns-clause-run
returns-clause-run g c = c.loop.invariant.run

pub returns-clause-rising : goal.returns-clause-rising
returns-clause-rising g c = c.loop.invariant.read.rising
