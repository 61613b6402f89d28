use Rattle.std.proofs.Common.{◌≡◌, refl, sym, subst, arith}
use Rattle.std.specs.Prelude.{false, None}
use Rattle.cc_flush.proofs.CheckpointRuns.{MoveStays, still_stays, moved_stays, moved_sound}
use Rattle.cc_flush.proofs.flusher.Flusher.checkpoint.Goals as goal

pub overflow_add-self : goal.overflow_add-self
overflow_add-self g c = omega (arith, c.place.ensures, c.in-Ok.ensures.short)

pub returns-then-self-ge-COUNTER_LIMIT-clause-good : goal.returns-then-self-ge-COUNTER_LIMIT-clause-good
returns-then-self-ge-COUNTER_LIMIT-clause-good g c h none = still_stays g.S.Site _ (g.met.S.Site.only_now _ h)

pub returns-in-Ok-clause-good : goal.returns-in-Ok-clause-good
returns-in-Ok-clause-good g c =
    subst (MoveStays g.S.Site c.move_over.new.site) c.self.view_is
    (moved_stays g.S.Site _ c.move_over.new.site g.met.S.Site.may_read c.self.invariant
    (λ h settled. c.move_over.ensures.good h settled c.self.inside.generation (omega arith))) c.requires.owes

pub returns-in-Err-clause-good : goal.returns-in-Err-clause-good
returns-in-Err-clause-good g c =
    subst (MoveStays g.S.Site c.move_over.new.site) c.self.view_is
    (moved_stays g.S.Site _ c.move_over.new.site g.met.S.Site.may_read c.self.invariant
    (λ h settled. c.move_over.ensures.good h settled c.self.inside.generation (omega arith))) c.requires.owes

pub invariant_of-self : goal.invariant_of-self
invariant_of-self g c =
    let back = c.move_over.ensures.honest.1 in
    let view = sym c.self.view_is in
    moved_sound g.S.Site _ c.self.inside.journal.side c.in-Ok.ensures.moved (rw c.place.ensures refl)
    (subst (λ e. e.failed ≡ None) view c.in_ok-check.ensures.goes_on) (c.self.invariant.idle (subst (λ e. e.owes ≡ false) view c.requires.owes))
    (λ h. c.in-Ok.ensures.holds (back h)) (λ h. c.in-Ok.ensures.spelled (back h)) (λ h. c.in-Ok.ensures.retired (back h))

pub returns-in-Err-clause-moves : goal.returns-in-Err-clause-moves
returns-in-Err-clause-moves g c =
    let e = c.in-Err.ensures in
    rw (sym c.self.view_is) (λ none less. record {
      at = e.kept;
      used = refl;
      generation = refl;
      failed = refl;
      device = e.fault;
      sides = e.failed;
    })
