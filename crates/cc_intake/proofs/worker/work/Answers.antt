use Rattle.std.proofs.Common.{◌+◌, [], ◌∷◌, ◌++◌, sym, ap, ◌∙◌, subst}
use Rattle.cc_intake.specs.Talks.{IsAnswer, places_of, step, IsAbove}
use Rattle.cc_intake.proofs.TalkSteps.{spoke-push, places-push, rise-push, step-add}
use Rattle.cc_intake.proofs.worker.work.Goals as goal

pub loop-preserved : goal.loop-preserved
loop-preserved g c =
    let i = c.loop.invariant in
    let a = c.bring-answer.result in
    let before = c.args.share.now in (
      i.0 ++ a ∷ [],
      spoke-push g.S.Source.gives g.S.Source.hears (IsAnswer g.L.Life.opening g.L.Life.accepted g.L.Life.taken) _ i.0 _ _ _ a _ i.1 c.in-Some-next.ensures
          c.bring-answer.ensures.answer c.told.ensures,
      c.bring-answer.ensures.count ∙ ap (step a) i.2 ∙ step-add a before (places_of i.0) ∙ ap (λ n. before + n) (sym (places-push i.0 a)),
      rise-push before i.0 a i.3 (subst (IsAbove a) i.2 c.bring-answer.ensures.above),
    )
