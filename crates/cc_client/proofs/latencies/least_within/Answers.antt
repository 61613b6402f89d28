use Rattle.std.proofs.Common.{arith}
use Rattle.cc_client.proofs.Counts.{short_below, enough}
use Rattle.cc_client.proofs.latencies.least_within.Goals as goal

pub loop-low-init : goal.loop-low-init
loop-low-init c = record {
  between = omega arith;
  within = enough c.args.percent c.args.all.now c.greatest-high.result c.requires c.greatest-high.ensures;
  short = λ fewer less. absurd (omega (arith, less));
}

pub loop-low-preserved : goal.loop-low-preserved
loop-low-preserved c =
    let before = c.loop-low.invariant in
    record {
      between = omega (arith, c.loop-low-test.true);
      within = before.within;
      short = λ fewer less. short_below c.args.percent c.args.all.now _ fewer (c.is_within.ensures.short c.if-is_within.false) (omega (arith, less));
    }

pub loop-low-preserved-then-is_within : goal.loop-low-preserved-then-is_within
loop-low-preserved-then-is_within c = record {
  between = omega arith;
  within = c.is_within.ensures.within c.if-is_within.true;
  short = c.loop-low.invariant.short;
}

pub returns : goal.returns
returns c =
    let before = c.loop-low.invariant in
    record {
      within = before.within;
      least = λ fewer less. before.short fewer (omega (arith, less, c.loop-low-test.false));
    }
