use Rattle.std.proofs.Common.{◌≡◌, [], ◌∷◌, ◌++◌, refl, sym, subst}
use Rattle.cc_web.specs.declared.order.Task.{Task}
use Rattle.cc_web.specs.Conducts.{ConductsTask}
use Rattle.cc_web.specs.Steps.{Begins}
use Rattle.cc_web.proofs.StepLemmas.{Leads-append}
use Rattle.cc_web.proofs.conduct.carry_out.Goals as goal

pub returns-in-Snapshot : goal.returns-in-Snapshot
returns-in-Snapshot g c =
    let t = c.take_snapshot.ensures in
    let order = c.args.order.now in
    let steps = t.0 ++ Begins order.timeout_ms ∷ [] in (
      steps,
      Leads-append g.A.NodeAccess.does t.0 (Begins order.timeout_ms ∷ []) _ _ _ (c.args.asking.now, refl, c.begin.ensures) t.1,
      subst (λ (what : Task). ConductsTask what order.key order.timeout_ms steps c.take_snapshot.result) (sym c.in-Snapshot.is) (t.0, refl, t.2),
    )

pub returns-in-Changes : goal.returns-in-Changes
returns-in-Changes g c =
    let t = c.follow_changes.ensures in
    let order = c.args.order.now in
    let steps = t.0 ++ Begins order.timeout_ms ∷ [] in (
      steps,
      Leads-append g.A.NodeAccess.does t.0 (Begins order.timeout_ms ∷ []) _ _ _ (c.args.asking.now, refl, c.begin-in-Changes.ensures) t.1,
      subst (λ (what : Task). ConductsTask what order.key order.timeout_ms steps c.follow_changes.result) (sym c.in-Changes.is) (t.0, refl, t.2),
    )
