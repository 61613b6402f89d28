use Rattle.std.proofs.Common.{List, ℕ, Option, None, subst}
use Rattle.std.specs.Prelude.{IfSome}
use Rattle.cc_intake.specs.Talks.{IsAnswer}
use Rattle.cc_workers.specs.WorkerSteps.{Brings}
use Rattle.cc_workers.proofs.WorkerStepLaws.{brings}
use Rattle.cc_workers.proofs.caller.serve.Goals as goal

pub returns : goal.returns
returns g c =
    let talk = c.work.ensures in
    let end = c.work.new.source in
    let served = brings g.I.Input.may_fail g.S.Admit.may_turn_away (IsAnswer g.L.Life.opening g.L.Life.accepted g.L.Life.taken) _ end
    (λ s. record { due = s.due; ahead = s.frames; done = s.done }) talk.0 talk.1 in (
      talk.0,
      talk.2,
      talk.3,
      subst (λ (x : Option (List ℕ)). IfSome x (λ bytes. Brings g.I.Input.may_fail g.S.Admit.may_turn_away
          (IsAnswer g.L.Life.opening g.L.Life.accepted g.L.Life.taken) end.done None bytes talk.0)) c.in-Ok.ensures served,
    )
