use Rattle.std.proofs.Common.{arith, ◌∙◌}
use Rattle.cc_links.proofs.HeardLoop.{heard_of_rows, heard_within, one_more, none_more, heard_last}
use Rattle.cc_links.proofs.links.count_heard.Goals as goal
use Rattle.cc_links.proofs.links.count_heard.Goals.{then-row-gt0, else-row-gt0}

pub loop-row-init : goal.loop-row-init
loop-row-init c = record { within = omega arith; rest = omega arith }

pub loop-row-preserved : goal.loop-row-preserved
loop-row-preserved c =
    elim c.if-row-gt0.branch [
      | then-row-gt0 w ↦ record {
        within = omega (arith, w.count-is, c.loop-row.invariant.within);
        rest = rw w.count-is (one_more _ _ _ c.loop-row-test.true c.row-item.is _ _ w.if-row-gt0.true c.loop-row.invariant.rest);
      }
      | else-row-gt0 w ↦ record {
        within = omega (arith, w.count-is, c.loop-row.invariant.within);
        rest = rw w.count-is (none_more _ _ _ c.loop-row-test.true c.row-item.is _ _ w.if-row-gt0.false c.loop-row.invariant.rest);
      }
    ]

pub returns-clause-count : goal.returns-clause-count
returns-clause-count c =
    heard_last _ _ _ _ c.loop-row-test.false c.loop-row.invariant.rest ∙ heard_of_rows _ c.requires

pub returns-clause-fits : goal.returns-clause-fits
returns-clause-fits c =
    omega (arith, heard_last _ _ _ _ c.loop-row-test.false c.loop-row.invariant.rest, heard_within c.args.rows.now)
