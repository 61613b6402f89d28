use Rattle.std.proofs.Common.{◌≤◌, ◌+◌, ◌∙◌, [], length, refl, sym, ap, subst}
use Rattle.cc_site.specs.Sides.{other}
use Rattle.cc_node_state.specs.Fronts.{holds_within}
use Rattle.cc_flush.proofs.FoundSides.{are_settled}
use Rattle.cc_flush.proofs.KeptSides.{good_now, rests_there}
use Rattle.cc_flush.proofs.flusher.Flusher.open.Goals as goal

pub invariant_of-result : goal.invariant_of-result
invariant_of-result g c =
    let s = g.S.Site in
    let found = c.in-Ok.found in
    let side = found.journal.side in
    record {
      reaches = c.in-Ok.ensures.reaches;
      within = λ honest _.
          let old = c.in-Ok.ensures.honest.1 honest in
          let stands = (c.in-Ok.ensures.found old).stands in
          subst (λ l. found.journal.place + 1 ≤ length l) (sym (c.in-Ok.ensures.same_bytes old side))
          (holds_within (s.state c.args.site side).bytes found.generation found.node found.journal.place stands.holds);
      is_length = λ honest _.
          let old = c.in-Ok.ensures.honest.1 honest in
          (c.in-Ok.ensures.found old).length ∙ ap length (sym (c.in-Ok.ensures.same_bytes old side));
      goes_on = λ _. refl;
      other_settled = λ honest _. are_settled (s.state c.args.site) (s.state c.open_sides.new.site)
          (c.in-Ok.ensures.settled (c.in-Ok.ensures.honest.1 honest)) (other side);
      idle = λ _. refl;
      lawful = tt;
      stands = λ honest _ there. c.in-Ok.ensures.stands (c.in-Ok.ensures.honest.1 honest);
    }

pub returns-clause-stands : goal.returns-clause-stands
returns-clause-stands g c honest = (c.in-Ok.ensures.found honest).stands

pub returns-clause-counted : goal.returns-clause-counted
returns-clause-counted g c honest = (c.in-Ok.ensures.found honest).counted

pub returns-clause-at_rest : goal.returns-clause-at_rest
returns-clause-at_rest g c honest there =
    let s = g.S.Site in
    let found = c.in-Ok.found in
    let new = c.open_sides.new.site in
    let behind = other found.journal.side in
    good_now (s.state new) (s.sent new) found.journal found.generation found.node [] (length (s.sent new))
    (rests_there (s.state new) (s.sent new) found.journal found.generation found.node
    (are_settled (s.state c.args.site) (s.state new) (c.in-Ok.ensures.settled honest) behind)
    (subst (λ l. 1 ≤ length l) (sym (c.in-Ok.ensures.same_bytes honest behind)) (there behind)) (c.in-Ok.ensures.stands honest))
