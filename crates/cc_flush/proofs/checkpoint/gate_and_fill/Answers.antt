use Rattle.std.proofs.Common.{inl, inr}
use Rattle.std.proofs.lemmas.Result.{err_from_is_err_and, IfErr-weaker}
use Rattle.cc_checkpoint.specs.Stops.{FillStops}
use Rattle.cc_flush.specs.Checkpoints.{FilledStops}
use Rattle.cc_flush.proofs.CheckpointRuns.{gate_off, filled_off}
use Rattle.cc_flush.proofs.checkpoint.gate_and_fill.Goals as goal

pub returns-in_err-ensure_gate-clause-every_moment : goal.returns-in_err-ensure_gate-clause-every_moment
returns-in_err-ensure_gate-clause-every_moment g c h settled there =
    gate_off g.S.Site c.args.side c.args.site.now c.ensure_gate.new.site (c.ensure_gate.ensures.every_moment h there)

pub returns-clause-every_moment : goal.returns-clause-every_moment
returns-clause-every_moment g c h settled =
    let first = c.ensure_gate.new.site in
    let h1 = c.ensure_gate.ensures.honest.0 h in
    filled_off g.S.Site c.args.side c.args.site.now first c.fill.new.site (g.met.S.Site.counts_now first h1) settled
    (c.ensure_gate.ensures.every_moment h) (c.ensure_gate.ensures.same h) (c.fill.ensures.every_moment h1)

pub returns-in_err-ensure_gate-clause-failed : goal.returns-in_err-ensure_gate-clause-failed
returns-in_err-ensure_gate-clause-failed g c h =
    let p = err_from_is_err_and c.from_residual.result c.from_residual.ensures.1 in
    rw (p.1, p.2) (inl (c.in_err-ensure_gate.ensures.failed h))

pub returns-clause-failed : goal.returns-clause-failed
returns-clause-failed g c h =
    let old = g.S.Site.state c.args.site.now c.args.side in
    let first = g.S.Site.state c.ensure_gate.new.site c.args.side in
    let second = g.S.Site.state c.fill.new.site c.args.side in
    IfErr-weaker c.fill.result (λ f. FillStops first f.call second) (λ f. FilledStops c.args.generation c.args.node.now old f.call second)
    (λ f stops. inr (inl (first, c.in_ok-ensure_gate.ensures.begins h, stops))) (c.fill.ensures.failed (c.ensure_gate.ensures.honest.0 h))
