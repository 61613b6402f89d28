use Rattle.std.proofs.Common.{◌≡◌, ℕ, ◌≤◌, ◌+◌, ◌++◌, max, length, refl, sym, ◌∙◌, ap, subst, arith}
use Rattle.std.specs.Prelude.{false, None}
use Rattle.cc_site.specs.declared.site.Side.{Side}
use Rattle.cc_site.specs.Sides.{other}
use Rattle.cc_journal.specs.Batches.{AreLawful, events_in, batch_bytes}
use Rattle.cc_journal.specs.Journals.{end_ahead, zeros_ahead}
use Rattle.cc_flush.specs.Engine.{IsSettled}
use Rattle.cc_flush.proofs.KeptSides.{good_now, ready, committed_stands, BatchMoments, batch_moments}
use Rattle.cc_flush.proofs.Lengths.{end_within}
use Rattle.cc_flush.proofs.flusher.Flusher.commit.Goals as goal

pub overflow_add-place : goal.overflow_add-place
overflow_add-place g c =
    let used = ap (λ e. e.used) c.self.view_is in
    omega (arith, c.place.ensures, ap (λ p. p.place) c.in-Ok.ensures.ok, c.in-Ok.ensures.short, c.self.invariant.reaches, used, c.requires.room)

pub length_after-self-inside-requires : goal.length_after-self-inside-requires
length_after-self-inside-requires g c =
    let used = ap (λ e. e.used) c.self.view_is in
    omega (arith, c.place.ensures, ap (λ p. p.place) c.in-Ok.ensures.ok, c.in-Ok.ensures.short, c.self.invariant.reaches, used, c.requires.room)

pub returns-in-Ok-clause-every_moment : goal.returns-in-Ok-clause-every_moment
returns-in-Ok-clause-every_moment g c =
    subst (BatchMoments g.S.Site c.args.batch.now c.make_durable.new.site) c.self.view_is
    (batch_moments g.S.Site c.args.batch.now c.make_durable.new.site _ g.met.S.Site.may_read c.self.invariant
    (λ h. c.make_durable.ensures.every_moment h c.self.inside.generation)) c.requires.owes c.requires.lawful

pub returns-in-Ok-clause-at_rest : goal.returns-in-Ok-clause-at_rest
returns-in-Ok-clause-at_rest g c =
    let s = g.S.Site in
    let batch = c.args.batch.now in
    let new = c.make_durable.new.site in
    let view = sym c.self.view_is in
    let idle = subst (λ e. e.owes ≡ false) view c.requires.owes in
    let lawful = subst (λ e. AreLawful e.twin batch) view c.requires.lawful in
    rw view (λ h none start events opening led.
    good_now (s.state new) (s.sent new) c.make_durable.new.journal c.self.inside.generation start (events ++ events_in batch) opening
    (c.in-Ok.ensures.at_rest h c.self.inside.generation start events opening
    (ready s _ batch c.self.invariant h none idle lawful g.met.S.Site.may_read start events opening led)))

pub returns-in-Err-clause-every_moment : goal.returns-in-Err-clause-every_moment
returns-in-Err-clause-every_moment g c =
    subst (BatchMoments g.S.Site c.args.batch.now c.make_durable.new.site) c.self.view_is
    (batch_moments g.S.Site c.args.batch.now c.make_durable.new.site _ g.met.S.Site.may_read c.self.invariant
    (λ h. c.make_durable.ensures.every_moment h c.self.inside.generation)) c.requires.owes c.requires.lawful

pub invariant_of-self : goal.invariant_of-self
invariant_of-self g c =
    let s = g.S.Site in
    let batch = c.args.batch.now in
    let new = c.make_durable.new.site in
    let at = c.make_durable.new.journal in
    let view = sym c.self.view_is in
    let side : at.side ≡ c.self.inside.journal.side = ap (λ p. p.side) c.in-Ok.ensures.ok in
    let place = ap (λ p. p.place) c.in-Ok.ensures.ok in
    let was = c.self.invariant in
    let back = c.make_durable.ensures.honest.1 in
    let owed = c.of.ensures ∙ c.in-Ok.ensures.landed in
    let lawful = subst (λ e. AreLawful e.twin batch) view c.requires.lawful in
    let used = c.self.inside.used in
    let was_at = c.self.inside.journal.place in
    let end = was_at + 1 + length (batch_bytes batch) in
    let ends : c.place.result + 1 ≡ end = omega (arith, place, c.place.ensures) in
    let zeros = zeros_ahead s.STRIDE used end in
    let length_is : c.length_after-self-inside.result ≡ max used (end_ahead s.STRIDE used end) =
    c.length_after-self-inside.ensures.length ∙ ap (λ (n : ℕ). max used (end_ahead s.STRIDE used n)) ends in
    record {
      reaches = end_within used end zeros c.length_after-self-inside.result at.place (omega (arith, place)) length_is;
      within = λ h none.
          subst (λ (t : Side). at.place + 1 ≤ length (s.state new t).bytes) (sym side)
          (end_within _ end zeros _ (at.place + 1) (omega (arith, place)) (c.in-Ok.ensures.length (back h)));
      is_length = λ h none.
          subst (λ (t : Side). c.length_after-self-inside.result ≡ length (s.state new t).bytes) (sym side)
          (length_is ∙ ap (λ (n : ℕ). max n (end_ahead s.STRIDE used end)) (was.is_length (back h) none) ∙ sym (c.in-Ok.ensures.length (back h)));
      goes_on = λ _. subst (λ e. e.failed ≡ None) view c.in_ok-check.ensures.goes_on;
      idle = λ is. absurd cc;
      lawful = rw owed lawful;
      other_settled = λ h none.
          subst (λ (t : Side). IsSettled (s.state new (other t))) (sym side)
          (subst IsSettled (sym (c.make_durable.ensures.other_side (back h))) (was.other_settled (back h) none));
      stands = λ h none there.
          rw owed (committed_stands s _ batch was (back h) none (subst (λ e. e.owes ≡ false) view c.requires.owes) lawful new at side
          (c.make_durable.ensures.other_side (back h)) (c.in-Ok.ensures.at_rest (back h)) there);
    }

pub returns-in-Ok-clause-owed : goal.returns-in-Ok-clause-owed
returns-in-Ok-clause-owed g c = record { owes = refl; these = c.of.ensures }
