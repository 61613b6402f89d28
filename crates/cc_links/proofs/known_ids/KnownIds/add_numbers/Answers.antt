use Rattle.std.proofs.Common.{refl, sym, ◌∙◌}
use Rattle.cc_links.proofs.KnownSets.{len_known, first_fits, next_number, front_number, fills_up}
use Rattle.cc_links.proofs.known_ids.KnownIds.add_numbers.Goals as goal

pub loop-number-init : goal.loop-number-init
loop-number-init c = record { within = len_known c.self.invariant c.self.view_is; rest = refl; front = refl }

pub returns-then-not-add-clause-fits : goal.returns-then-not-add-clause-fits
returns-then-not-add-clause-fits c = (
  λ h. cc,
  λ fits. sym c.if-not-add.true ∙ c.add.ensures.fits.1 (first_fits _ _ _
      (next_number _ _ _ _ _ 0 c.loop-number-test.true (rw c.unwrap.ensures at c.new.ensures.id) c.loop-number.invariant.rest) fits),
)

pub returns-then-not-add-clause-full : goal.returns-then-not-add-clause-full
returns-then-not-add-clause-full c _ =
    fills_up _ _ _ _ _ _ _ c.loop-number-test.true c.loop-number.invariant.front
    (front_number _ _ _ _ _ 0 c.loop-number-test.true (rw c.unwrap.ensures at c.new.ensures.id) c.loop-number.invariant.front)
    c.add.ensures.fits c.if-not-add.true (c.add.ensures.unchanged c.if-not-add.true)

pub loop-number-preserved : goal.loop-number-preserved
loop-number-preserved c = record {
  within = c.add.ensures.within;
  rest = rw (c.add.ensures.added c.if-not-add.false) (next_number _ _ _ _ _ 0 c.loop-number-test.true (rw c.unwrap.ensures at c.new.ensures.id)
      c.loop-number.invariant.rest);
  front = rw (c.add.ensures.added c.if-not-add.false) (front_number _ _ _ _ _ 0 c.loop-number-test.true (rw c.unwrap.ensures at c.new.ensures.id)
      c.loop-number.invariant.front);
}
