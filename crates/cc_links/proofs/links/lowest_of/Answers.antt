use Rattle.std.proofs.Common.{not, arith, ◌∙◌}
use Rattle.cc_views.specs.NatSets as set
use Rattle.cc_links.proofs.LowestLoop.{rows_reach, reach_at, lowest_first, lowest_step, lowest_last, stays, goes, lowest_of_rows}
use Rattle.cc_links.proofs.links.lowest_of.Goals as goal
use Rattle.cc_links.proofs.links.lowest_of.Goals.{then-not-has_left, else-not-has_left}

pub overflow_add-row : goal.overflow_add-row
overflow_add-row c =
    let here = reach_at c.args.posts c.args.rows.now c.loop-row.row-index c.row-item.result c.loop-row-test.true c.row-item.is c.loop-row.invariant.reached in
    omega (arith, here.0, c.ranges.posts)

pub loop-row-init : goal.loop-row-init
loop-row-init c = record {
  within = omega arith;
  reached = rows_reach c.args.posts c.args.rows.now c.requires.rising c.requires.reached;
  rest = lowest_first (λ q. not (set.contains (set.from_list c.args.left.now) q)) c.args.posts c.args.rows.now;
}

pub loop-row-preserved : goal.loop-row-preserved
loop-row-preserved c =
    let here = reach_at _ _ _ _ c.loop-row-test.true c.row-item.is c.loop-row.invariant.reached in
    elim c.if-not-has_left.branch [
      | then-not-has_left w ↦ record {
        within = omega (arith, w.lowest-is, c.loop-row.invariant.within);
        reached = here.1;
        rest = lowest_step _ _ _ _ _ c.loop-row-test.true c.row-item.is _ _ _
            (stays _ _ _ _ _ c.has_left.ensures w.if-not-has_left.true (w.lowest-is ∙ w.min-lowest.ensures)) c.loop-row.invariant.rest;
      }
      | else-not-has_left w ↦ record {
        within = omega (arith, w.lowest-is, c.loop-row.invariant.within);
        reached = here.1;
        rest = lowest_step _ _ _ _ _ c.loop-row-test.true c.row-item.is _ _ _
            (goes _ _ _ _ _ c.has_left.ensures w.if-not-has_left.false w.lowest-is) c.loop-row.invariant.rest;
      }
    ]

pub returns : goal.returns
returns c =
    lowest_last _ _ _ _ _ _ c.loop-row-test.false c.loop-row.invariant.within c.loop-row.invariant.rest
    ∙ lowest_of_rows _ _ _ c.requires.rising (rows_reach _ _ c.requires.rising c.requires.reached)
