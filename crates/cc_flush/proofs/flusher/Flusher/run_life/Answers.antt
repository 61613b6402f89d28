use Rattle.std.proofs.Common.{◌≡◌, inl, inr, [], ◌∷◌, length, refl, sym, ◌∙◌, ap, subst, arith, rules, append-nil}
use Rattle.std.proofs.lemmas.List.{nil_from_length}
use Rattle.std.proofs.lemmas.Result.{err_from_is_err_and}
use Rattle.std.specs.Vec.Iter.{into_iter_items}
use Rattle.cc_flush.specs.Commits.{HasLived}
use Rattle.cc_flush.specs.Lives.{AreTurnsLawful}
use Rattle.cc_flush.proofs.LifeSteps.{stays, parts_more, done_more, one_more, run_ended, run_failed}
use Rattle.cc_flush.proofs.flusher.Flusher.run_life.Goals as goal

pub returns-in-Some-clause-run : goal.returns-in-Some-clause-run
returns-in-Some-clause-run g c = record {
  done = [];
  rest = c.args.actions.items;
  parts = refl;
  twin = refl;
  in_use = refl;
  each = λ none. absurd cc;
  told = λ t. sym (append-nil (g.S.Site.sent c.args.self.now.site));
  stops = λ none. absurd cc;
  moments = λ h t none. absurd cc;
  afterwards = λ h t none start events opening was. tt;
  sides = λ h none. absurd cc;
  sides_afterwards = λ h none start events was. tt;
}

pub loop-action-init : goal.loop-action-init
loop-action-init g c =
    let s = g.S.Site in
    let old = c.args.self.now in
    record {
      parts = search rules;
      count = search rules;
      lawful = search rules;
      run = stays s (HasLived s) old (λ start events opening was. was.good) c.requires.owes (sym c.fault.ensures ∙ c.in_default.is)
          (g.met.S.Site.only_now old.site);
      each = refl;
      same_opened = refl;
    }

pub loop-action-preserved : goal.loop-action-preserved
loop-action-preserved g c =
    let at = c.loop-action in
    let action = c.in-Some-action.action in
    let rest = into_iter_items c.next.new.self in
    let steps : into_iter_items at.action-iterator ≡ action ∷ rest = c.in-Some-action.ensures.steps.0 in
    let lawful = subst (AreTurnsLawful at.self.twin) steps at.invariant.lawful in
    let acted = c.in_ok-act.ensures.acts in
    record {
      parts = parts_more c.args.actions.items at.yielded (into_iter_items at.action-iterator) action rest at.invariant.parts steps;
      count = omega (arith, at.invariant.count, c.in-Some-action.ensures.steps.1, ap length steps);
      lawful = subst (λ n. AreTurnsLawful n rest) (sym acted.0.twin) lawful.1;
      run = done_more g.S.Site c.args.self.now at.self c.act.new.self at.yielded action at.invariant.run acted.0;
      each = one_more g.S.Site at.yielded action c.args.self.now at.self c.act.new.self at.invariant.each acted;
      same_opened = c.in_ok-act.ensures.same_opened ∙ at.invariant.same_opened;
    }

pub returns-then-not-has_room_for-clause-run : goal.returns-then-not-has_room_for-clause-run
returns-then-not-has_room_for-clause-run g c =
    let at = c.loop-action in
    let rest = into_iter_items c.next.new.self in
    let full = c.if-not-has_room_for.ensures in
    run_ended g.S.Site c.args.self.now at.self c.args.actions.items at.yielded (into_iter_items at.action-iterator)
    at.invariant.parts at.invariant.run at.invariant.each
    (inr ((full.0.0, rest, c.in-Some-action.ensures.steps.0 ∙ ap (λ a. a ∷ rest) full.0.1), full.1))

pub returns-in_err-act-clause-run : goal.returns-in_err-act-clause-run
returns-in_err-act-clause-run g c =
    let at = c.loop-action in
    let p = err_from_is_err_and c.from_residual.result c.from_residual.ensures.1 in
    rw (p.1, p.2) (run_failed g.S.Site c.args.self.now at.self c.act.new.self c.args.actions.items at.yielded (into_iter_items at.action-iterator)
    c.in-Some-action.action (into_iter_items c.next.new.self) c.in_err-act.field-0.0 at.invariant.parts c.in-Some-action.ensures.steps.0
    at.invariant.run at.invariant.each c.in_err-act.ensures.acts)

pub returns-clause-run : goal.returns-clause-run
returns-clause-run g c =
    let s = g.S.Site in
    let at = c.loop-action in
    let empty = nil_from_length (into_iter_items at.action-iterator) (sym at.invariant.count ∙ c.in-None.ensures.steps.0) in
    run_ended s c.args.self.now at.self c.args.actions.items at.yielded (into_iter_items at.action-iterator)
    at.invariant.parts at.invariant.run at.invariant.each (inl empty)
