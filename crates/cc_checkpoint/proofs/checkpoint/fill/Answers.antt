use Rattle.std.proofs.Common.{◌∙◌, inl, inr, subst, arith}
use Rattle.std.proofs.lemmas.Result.{IfErr-weaker}
use Rattle.cc_site.specs.ToldFaults.{CountsCalls}
use Rattle.cc_checkpoint.specs.Stops.{Fills, ImageStops, FillStops}
use Rattle.cc_node_state.proofs.TableWrites.{on_ok}
use Rattle.cc_checkpoint.proofs.Ahead.{err_is}
use Rattle.cc_checkpoint.proofs.BehindRuns.{behind_rests}
use Rattle.cc_checkpoint.proofs.OffRuns.{then_off}
use Rattle.cc_checkpoint.proofs.Imaged.{filled_by}
use Rattle.cc_checkpoint.proofs.checkpoint.fill.Goals as goal

pub returns-in_err-close_gate-clause-every_moment : goal.returns-in_err-close_gate-clause-every_moment
returns-in_err-close_gate-clause-every_moment g c honest sure = c.close_gate.ensures.every_moment honest

pub returns-clause-every_moment : goal.returns-clause-every_moment
returns-clause-every_moment g c honest sure =
    let s = g.S.Site in
    let side = c.args.side in
    let mid = c.close_gate.new.site in
    let still = c.close_gate.ensures.honest.0 honest in
    then_off s side c.args.site.now mid c.write_image.new.site (c.close_gate.ensures.every_moment honest) (g.met.S.Site.counts_now mid still)
    (behind_rests s side mid c.write_image.new.site (c.in_ok-close_gate.ensures.shut honest sure) (c.write_image.ensures.every_moment still))

pub returns-clause-filled : goal.returns-clause-filled
returns-clause-filled g c honest =
    let s = g.S.Site in
    let closed = c.in_ok-close_gate.ensures in
    on_ok c.write_image.result
    (filled_by (s.state c.close_gate.new.site c.args.side) (s.state c.write_image.new.site c.args.side) c.args.generation c.args.node.now
    (closed.there honest) (closed.closed honest) c.requires.generation (omega (arith, c.ranges.generation)) c.node_is_spellable.ensures)
    (c.write_image.ensures.value (c.close_gate.ensures.honest.0 honest))

pub returns-in_err-close_gate-clause-failed : goal.returns-in_err-close_gate-clause-failed
returns-in_err-close_gate-clause-failed g c honest =
    rw (err_is c.from_residual.result c.from_residual.ensures.1) (inl (c.in_err-close_gate.ensures.failed honest))

pub returns-clause-honest : goal.returns-clause-honest
returns-clause-honest g c = (
  λ h. c.write_image.ensures.honest.0 (c.close_gate.ensures.honest.0 h),
  λ h. c.close_gate.ensures.honest.1 (c.write_image.ensures.honest.1 h),
)

pub returns-clause-tells : goal.returns-clause-tells
returns-clause-tells g c = (
  (
    λ t. c.write_image.ensures.tells.0.0 (c.close_gate.ensures.tells.0.0 t),
    λ t. c.close_gate.ensures.tells.0.1 (c.write_image.ensures.tells.0.1 t),
  ),
  c.write_image.ensures.tells.1 ∙ c.close_gate.ensures.tells.1,
)

pub returns-clause-other_side : goal.returns-clause-other_side
returns-clause-other_side g c honest =
    c.write_image.ensures.other_side (c.close_gate.ensures.honest.0 honest) ∙ c.close_gate.ensures.other_side honest

pub returns-clause-failed : goal.returns-clause-failed
returns-clause-failed g c honest =
    let s = g.S.Site in
    let old = s.state c.args.site.now c.args.side in
    let closed = s.state c.close_gate.new.site c.args.side in
    let new = s.state c.write_image.new.site c.args.side in
    IfErr-weaker c.write_image.result (λ f. ImageStops closed f.call new) (λ f. FillStops old f.call new)
    (λ f stops. inr (closed, c.in_ok-close_gate.ensures.closes honest, stops)) (c.write_image.ensures.failed (c.close_gate.ensures.honest.0 honest))

pub returns-clause-fault : goal.returns-clause-fault
returns-clause-fault g c =
    subst (λ n. CountsCalls (Fills c.args.side) n (g.S.Site.failures c.write_image.new.site) c.write_image.result)
    c.in_ok-close_gate.ensures.fault c.write_image.ensures.fault
