use Rattle.std.proofs.Common.{◌≡◌, ◌≤◌, ◌++◌, inl, List, ℕ, [], length, refl, sym, ap, ◌∙◌, append_assoc, arith}
use Rattle.std.proofs.lemmas.List.{length-append, append-nil}
use Rattle.std.proofs.lemmas.Result.{err_from_is_err_and}
use Rattle.cc_node_state.specs.States.{layout_of_node, node_spelling}
use Rattle.cc_node_state.specs.Parts.{joined}
use Rattle.cc_node_state.proofs.PartLaws.{joined_rest}
use Rattle.cc_checkpoint.proofs.PastGate.{half_past, front_kept}
use Rattle.cc_node_state.proofs.StateLengths.{length-node}
use Rattle.cc_checkpoint.proofs.BehindRuns.{started_behind, then_written, grown}
use Rattle.cc_checkpoint.proofs.checkpoint.write_pieces.Goals as goal

pub returns-in_err-write_at-clause-every_moment : goal.returns-in_err-write_at-clause-every_moment
returns-in_err-write_at-clause-every_moment g c honest =
    let mid = c.loop-pieces.site in
    let so_far = c.loop-pieces.invariant in
    let still = so_far.honest.0 honest in
    then_written g.S.Site c.args.side c.args.site.now mid c.write_at.new.self c.loop-pieces.place (length c.as_slice-bytes.result.now)
    (so_far.moments honest) (g.met.S.Site.counts_now mid still) (g.met.S.Site.only_now mid still)
    (omega (arith, c.requires.there, so_far.from)) (omega (arith, so_far.within honest)) (c.write_at.ensures.time still)

pub overflow_add-place : goal.overflow_add-place
overflow_add-place g c =
    omega (
      arith,
      c.loop-pieces.invariant.place,
      length-node (layout_of_node c.args.node.now) _ _ c.requires.spelled,
      c.requires.short,
      ap length c.as_slice-bytes.ensures,
      c.next.ensures.fits,
      c.next.ensures.length,
    )

pub loop-pieces-preserved : goal.loop-pieces-preserved
loop-pieces-preserved g c =
    let s = g.S.Site in
    let side = c.args.side in
    let mid = c.loop-pieces.site in
    let new = c.write_at.new.self in
    let so_far = c.loop-pieces.invariant in
    let piece = c.next.new.into in
    let rest = joined c.next.new.self in
    let split : joined c.loop-pieces.pieces ≡ piece ++ rest = joined_rest c.loop-pieces.pieces c.next.new.self piece c.next.ensures.piece in
    let is : c.as_slice-bytes.result.now ≡ piece = c.as_slice-bytes.ensures in
    let wrote : s.honest c.args.site.now → (s.state new side).bytes ≡ (s.state mid side).bytes ++ c.as_slice-bytes.result.now =
    λ honest. grown (s.state mid side) (s.state new side) c.loop-pieces.place c.as_slice-bytes.result.now (so_far.within honest)
    (c.in_ok-write_at.ensures.value (so_far.honest.0 honest)) in
    let longer = length-append piece rest in
    record {
      honest = (λ h. c.write_at.ensures.honest.0 (so_far.honest.0 h), λ h. so_far.honest.1 (c.write_at.ensures.honest.1 h));
      tells = (λ t. c.write_at.ensures.tells.0.0 (so_far.tells.0 t), λ t. so_far.tells.1 (c.write_at.ensures.tells.0.1 t));
      sent = c.write_at.ensures.tells.1 ∙ so_far.sent;
      other_side = λ honest. c.write_at.ensures.other_side (so_far.honest.0 honest) ∙ so_far.other_side honest;
      value = λ honest. ap (λ (l : List ℕ). l ++ rest) (wrote honest ∙ ap (λ (l : List ℕ). (s.state mid side).bytes ++ l) is)
          ∙ append_assoc (s.state mid side).bytes piece rest
          ∙ ap (λ (l : List ℕ). (s.state mid side).bytes ++ l) (sym split)
          ∙ so_far.value honest;
      place = omega (arith, so_far.place, ap length is, ap length split, longer);
      within = λ honest.
          let grown = length-append (s.state mid side).bytes c.as_slice-bytes.result.now in
          omega (arith, so_far.within honest, ap length (wrote honest), grown, ap length is);
      from = omega (arith, so_far.from);
      moments = λ honest.
          let still = so_far.honest.0 honest in
          then_written s side c.args.site.now mid new c.loop-pieces.place (length c.as_slice-bytes.result.now)
          (so_far.moments honest) (g.met.S.Site.counts_now mid still) (g.met.S.Site.only_now mid still)
          (omega (arith, c.requires.there, so_far.from)) (omega (arith, so_far.within honest)) (c.write_at.ensures.time still);
      failures = c.in_ok-write_at.ensures.fault ∙ so_far.failures;
    }

pub returns-in_err-write_at-clause-failed : goal.returns-in_err-write_at-clause-failed
returns-in_err-write_at-clause-failed g c honest =
    let s = g.S.Site in
    let side = c.args.side in
    let old = c.args.site.now in
    let mid = c.loop-pieces.site in
    let so_far = c.loop-pieces.invariant in
    let there : 1 ≤ length (s.state old side).bytes = omega (arith, c.requires.from honest, c.requires.there) in
    let some : 1 ≤ length (s.state mid side).bytes = omega (arith, so_far.within honest, so_far.from, c.requires.there) in
    let p = err_from_is_err_and c.from_residual.result c.from_residual.ensures.1 in
    rw (p.1, p.2) (
      inl (ap (λ f. f.call) c.in_err-write_at.ensures.fault.0),
      half_past (s.state mid side) (s.state c.write_at.new.self side) c.loop-pieces.place (length c.as_slice-bytes.result.now)
          (omega (arith, c.requires.there, so_far.from)) (omega (arith, so_far.within honest)) (c.in_err-write_at.ensures.failed (so_far.honest.0 honest))
          ∙ front_kept (s.state mid side).bytes (joined c.loop-pieces.pieces) (s.state old side).bytes (node_spelling c.args.node.now)
          some there (so_far.value honest),
    )

pub loop-pieces-init : goal.loop-pieces-init
loop-pieces-init g c =
    let s = g.S.Site in
    let site = c.args.site.now in
    let whole = c.new-pieces.ensures.whole in
    record {
      honest = (λ h. h, λ h. h);
      tells = (λ t. t, λ t. t);
      sent = refl;
      other_side = λ honest. refl;
      value = λ honest. ap (λ (l : List ℕ). (s.state site c.args.side).bytes ++ l) whole;
      place = omega (arith, ap length whole);
      within = c.requires.from;
      from = omega arith;
      moments = λ honest. started_behind s c.args.side site (g.met.S.Site.only_now site honest);
      failures = refl;
    }

pub returns-clause-value : goal.returns-clause-value
returns-clause-value g c honest =
    let bytes = (g.S.Site.state c.loop-pieces.site c.args.side).bytes in
    let none : c.loop-pieces.pieces ≡ [] = c.next.ensures.end (omega (arith, c.loop-pieces-test.false)) in
    sym (append-nil bytes) ∙ ap (λ (l : List (List ℕ)). bytes ++ joined l) (sym none) ∙ c.loop-pieces.invariant.value honest

pub returns-clause-end : goal.returns-clause-end
returns-clause-end g c =
    let none : c.loop-pieces.pieces ≡ [] = c.next.ensures.end (omega (arith, c.loop-pieces-test.false)) in
    omega (arith, c.loop-pieces.invariant.place, ap (λ (l : List (List ℕ)). length (joined l)) none)

pub returns-clause-at_end : goal.returns-clause-at_end
returns-clause-at_end g c = c.loop-pieces.invariant.within
