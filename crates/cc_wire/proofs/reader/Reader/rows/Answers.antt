use Rattle.std.proofs.Common.{◌∷◌, [], ◌+◌, ◌∙◌, arith, ap}
use Rattle.std.proofs.lemmas.Result.{err_from_is_err_and}
use Rattle.std.proofs.lemmas.List.{length-append}
use Rattle.cc_views.specs.Rows.{rows_of}
use Rattle.cc_wire.specs.Readers.{row_at}
use Rattle.cc_wire.proofs.Items.{goes_on, ends, is_done, still_below, below_next}
use Rattle.cc_wire.proofs.Views.{len-rows_of}
use Rattle.cc_wire.proofs.reader.Reader.rows.Goals as goal

pub returns-in_err-row : goal.returns-in_err-row
returns-in_err-row c =
    let p = err_from_is_err_and c.from_residual.result c.from_residual.ensures.1 in
    rw (p.1, p.2) (ends row_at (λ r. r.node) _ (rows_of c.loop.view) c.args.count c.loop.counter c.loop.least c.loop.self _ c.loop-test.true
    c.in_err-row.ensures.exact c.loop.invariant.so_far)

pub push-requires-clause-room : goal.push-requires-clause-room
push-requires-clause-room c = omega (arith, len-rows_of c.loop.view, c.loop.invariant.length, c.requires.count)

pub push-requires-clause-above : goal.push-requires-clause-above
push-requires-clause-above c = still_below (λ r. r.node) (rows_of c.loop.view) c.in_ok-row.row c.loop.least c.loop.invariant.below c.in_ok-row.ensures.least

pub loop-preserved : goal.loop-preserved
loop-preserved c =
    let row = c.in_ok-row.row in
    rw (c.push.ensures.rows, c.from-least.ensures, c.number.ensures.number) (record {
      so_far = goes_on row_at (λ r. r.node) (rows_of c.loop.view) c.args.count c.loop.counter c.loop.least c.loop.self row _ _ c.loop-test.true
          c.in_ok-row.ensures.exact c.loop.invariant.so_far;
      length = length-append (rows_of c.loop.view) (row ∷ []) ∙ ap (λ k. k + 1) c.loop.invariant.length;
      below = below_next (λ r. r.node) (rows_of c.loop.view) row c.loop.least c.loop.invariant.below c.in_ok-row.ensures.least;
      least = omega arith;
    })

pub returns : goal.returns
returns c = is_done row_at (λ r. r.node) (rows_of c.loop.view) c.args.count c.loop.counter c.loop.least c.loop.self _ c.loop-test.false c.loop.invariant.so_far
