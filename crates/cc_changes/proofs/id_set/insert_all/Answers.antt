use Rattle.std.proofs.Common.{◌+◌}
use Rattle.cc_changes.proofs.Places.{next_one, so_far_fits}
use Rattle.cc_changes.proofs.id_set.insert_all.Goals as goal

pub insert_one-requires-clause-fits : goal.insert_one-requires-clause-fits
insert_one-requires-clause-fits c = rw (c.loop-id.invariant.so_far, next_one _ _ _ _ c.loop-id-test.true c.id-item.is)
    (so_far_fits _ c.args.others.now (c.loop-id.id-index + 1) c.requires.fits)

pub loop-id-preserved : goal.loop-id-preserved
loop-id-preserved c = record {
  table = c.insert_one.ensures.table;
  so_far = rw (c.insert_one.ensures.ids, c.loop-id.invariant.so_far) (next_one _ _ _ _ c.loop-id-test.true c.id-item.is);
}
