use Rattle.std.proofs.Common.{refl, sym, ◌∙◌}
use Rattle.cc_links.specs.declared.link_row.LinkRow.{LinkRow}
use Rattle.cc_links.proofs.KnownSets.{len_known, first_fits, next_named, front_named, fills_named}
use Rattle.cc_links.proofs.known_ids.KnownIds.add_peers.Goals as goal

pub loop-row-init : goal.loop-row-init
loop-row-init c = record { within = len_known c.self.invariant c.self.view_is; rest = refl; front = refl }

pub returns-then-not-add-clause-fits : goal.returns-then-not-add-clause-fits
returns-then-not-add-clause-fits c = (
  λ h. cc,
  λ fits. sym c.if-not-add.true ∙ c.add.ensures.fits.1 (first_fits _ _ _
      (next_named (λ (r : LinkRow). r.peer) _ _ _ _ _ c.loop-row-test.true c.row-item.is c.loop-row.invariant.rest) fits),
)

pub returns-then-not-add-clause-full : goal.returns-then-not-add-clause-full
returns-then-not-add-clause-full c _ =
    fills_named (λ (r : LinkRow). r.peer) _ _ _ _ _ _ _ c.loop-row-test.true c.row-item.is c.loop-row.invariant.front
    c.add.ensures.fits c.if-not-add.true (c.add.ensures.unchanged c.if-not-add.true)

pub loop-row-preserved : goal.loop-row-preserved
loop-row-preserved c = record {
  within = c.add.ensures.within;
  rest = rw (c.add.ensures.added c.if-not-add.false) (next_named (λ (r : LinkRow). r.peer) _ _ _ _ _ c.loop-row-test.true c.row-item.is
      c.loop-row.invariant.rest);
  front = rw (c.add.ensures.added c.if-not-add.false) (front_named (λ (r : LinkRow). r.peer) _ _ _ _ _ c.loop-row-test.true c.row-item.is
      c.loop-row.invariant.front);
}
