use Rattle.cc_client.proofs.Counts.{all_within, few_within, at_the_end}
use Rattle.cc_client.proofs.latencies.greatest.Goals as goal

pub loop-micros-preserved : goal.loop-micros-preserved
loop-micros-preserved c =
    let before = c.loop-micros.invariant in
    let greatest = c.loop-micros.greatest in
    let i = c.loop-micros.micros-index in
    let xs = c.args.all.now in
    rw c.max-greatest.ensures (record {
      all = all_within xs i greatest c.loop-micros-test.true before.all;
      few = few_within xs i greatest c.loop-micros-test.true before.few;
    })

pub returns : goal.returns
returns c =
    let before = c.loop-micros.invariant in
    at_the_end c.args.all.now c.loop-micros.micros-index c.loop-micros.greatest c.loop-micros-test.false before.all before.few
