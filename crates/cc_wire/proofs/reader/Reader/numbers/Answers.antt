use Rattle.std.proofs.Common.{◌∷◌, [], ◌+◌, arith, ◌∙◌, ap}
use Rattle.std.proofs.lemmas.Result.{err_from_is_err_and}
use Rattle.std.proofs.lemmas.List.{length-append}
use Rattle.cc_views.specs.NatLists.{push_ascending}
use Rattle.cc_wire.specs.Readers.{number_from}
use Rattle.cc_wire.proofs.Items.{goes_on, ends, is_done, still_below, below_next}
use Rattle.cc_wire.proofs.reader.Reader.numbers.Goals as goal

pub returns-in_err-number-clause-read : goal.returns-in_err-number-clause-read
returns-in_err-number-clause-read g c =
    let p = err_from_is_err_and c.from_residual.result c.from_residual.ensures.1 in
    rw (p.1, p.2) (ends number_from (λ n. n) _ (g.S.AscendingSet.items c.loop.set) c.args.count c.loop.counter c.loop.least c.loop.self _ c.loop-test.true
    c.in_err-number.ensures.exact c.loop.invariant.so_far)

pub add_above-requires-clause-above : goal.add_above-requires-clause-above
add_above-requires-clause-above g c = still_below (λ n. n) (g.S.AscendingSet.items c.loop.set) c.in_ok-number.number c.loop.least c.loop.invariant.below
    c.in_ok-number.ensures.least

pub loop-preserved : goal.loop-preserved
loop-preserved g c =
    let n = c.in_ok-number.number in
    let before = g.S.AscendingSet.items c.loop.set in
    let above = still_below (λ n. n) before n c.loop.least c.loop.invariant.below c.in_ok-number.ensures.least in
    rw (c.add_above.ensures.items, c.from-least.ensures) (record {
      so_far = goes_on number_from (λ n. n) before c.args.count c.loop.counter c.loop.least c.loop.self n _ _ c.loop-test.true
          c.in_ok-number.ensures.exact c.loop.invariant.so_far;
      length = length-append before (n ∷ []) ∙ ap (λ k. k + 1) c.loop.invariant.length;
      below = below_next (λ n. n) before n c.loop.least c.loop.invariant.below c.in_ok-number.ensures.least;
      ascending = push_ascending before n c.loop.invariant.ascending above;
      room = omega (arith, c.add_above.ensures.room, c.loop.invariant.room);
      least = omega (arith, c.loop.invariant.least, c.in_ok-number.ensures.least);
    })

pub returns-clause-read : goal.returns-clause-read
returns-clause-read g c = is_done number_from (λ n. n) (g.S.AscendingSet.items c.loop.set) c.args.count c.loop.counter c.loop.least c.loop.self _
    c.loop-test.false c.loop.invariant.so_far
