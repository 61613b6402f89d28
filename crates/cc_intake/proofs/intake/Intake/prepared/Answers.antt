use Rattle.std.proofs.Common.{◌≡◌, refl, ap, ◌∙◌, rules, arith}
use Rattle.std.proofs.lemmas.Result.{err_from_is_err_and}
use Rattle.std.specs.Prelude.{Some}
use Rattle.cc_node.specs.Core.{Core, made}
use Rattle.cc_intake.specs.Intakes.{Accepting}
use Rattle.cc_intake.specs.Histories.{core_after}
use Rattle.cc_intake.proofs.RefusedEvents.{refuses_own, decides_after, may_accept, refuses_made}
use Rattle.cc_intake.proofs.intake.Intake.prepared.Goals as goal

pub returns-in_err-decide-clause-refused : goal.returns-in_err-decide-clause-refused
returns-in_err-decide-clause-refused g c =
    let event = c.args.event.now in
    let r = c.in_err-decide.field-0.0 in
    let own = decides_after g.L.Life.opening c.args.self.now _ c.self.inside.core event (Some r) c.self.view_is c.self.invariant.0
    c.in_err-decide.ensures.refused in
    let p = err_from_is_err_and c.from_residual.result c.from_residual.ensures.1 in
    rw (p.1, p.2) (refuses_own g.L.Life.opening g.L.Life.taken c.args.self.now _ event r own (search rules))

pub returns-in_err-made-clause-refused : goal.returns-in_err-made-clause-refused
returns-in_err-made-clause-refused g c =
    let p = err_from_is_err_and c.from_residual-in_err-made.result c.from_residual-in_err-made.ensures.1 in
    rw (p.1, p.2) (refuses_made g.L.Life.opening g.L.Life.taken c.args.self.now _ c.self.inside.core c.self.inside.accepted c.args.event.now
    c.in_err-made.field-0.0 c.self.view_is c.self.invariant.0 c.self.invariant.1 (omega arith)
    c.in_err-made.ensures.refused)

pub returns-in_default-clause-refused : goal.returns-in_default-clause-refused
returns-in_default-clause-refused g c = (
  may_accept g.L.Life.opening c.args.self.now _ c.self.inside.core c.self.inside.accepted c.args.event.now c.self.view_is c.self.invariant.0
      c.self.invariant.1 c.in_ok-made.ensures.made.0 (omega arith),
  refl,
)

pub returns-clause-entry : goal.returns-clause-entry
returns-clause-entry g c =
    let opening = g.L.Life.opening in
    let event = c.args.event.now in
    let makes : c.in_ok-made.made ≡ made (core_after opening c.args.self.now.entries) event =
    c.in_ok-made.ensures.made.1 ∙ ap (λ (k : Core). made k event) c.self.invariant.0 ∙ ap (λ (i : Accepting). made (core_after opening i.entries) event)
    c.self.view_is in (
      may_accept opening c.args.self.now _ c.self.inside.core c.self.inside.accepted event c.self.view_is c.self.invariant.0 c.self.invariant.1
          c.in_ok-made.ensures.made.0 (omega arith),
      λ i. record { event = c.in-Ok.ensures i; made = makes i },
    )
