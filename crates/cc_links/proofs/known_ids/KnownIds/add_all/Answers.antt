use Rattle.std.proofs.Common.{refl, sym, ◌∙◌}
use Rattle.cc_links.proofs.KnownSets.{len_known, first_fits, next_id, front_id, fills_up}
use Rattle.cc_links.proofs.known_ids.KnownIds.add_all.Goals as goal

pub loop-id-init : goal.loop-id-init
loop-id-init c = record { within = len_known c.self.invariant c.self.view_is; rest = refl; front = refl }

pub returns-then-not-add-clause-fits : goal.returns-then-not-add-clause-fits
returns-then-not-add-clause-fits c = (
  λ h. cc,
  λ fits. sym c.if-not-add.true ∙ c.add.ensures.fits.1 (first_fits _ _ _
      (next_id _ _ _ _ _ c.loop-id-test.true c.id-item.is c.loop-id.invariant.rest) fits),
)

pub returns-then-not-add-clause-full : goal.returns-then-not-add-clause-full
returns-then-not-add-clause-full c _ =
    fills_up _ _ _ _ _ _ _ c.loop-id-test.true c.loop-id.invariant.front (front_id _ _ _ _ _ c.loop-id-test.true c.id-item.is c.loop-id.invariant.front)
    c.add.ensures.fits c.if-not-add.true (c.add.ensures.unchanged c.if-not-add.true)

pub loop-id-preserved : goal.loop-id-preserved
loop-id-preserved c = record {
  within = c.add.ensures.within;
  rest = rw (c.add.ensures.added c.if-not-add.false) (next_id _ _ _ _ _ c.loop-id-test.true c.id-item.is c.loop-id.invariant.rest);
  front = rw (c.add.ensures.added c.if-not-add.false) (front_id _ _ _ _ _ c.loop-id-test.true c.id-item.is c.loop-id.invariant.front);
}
