use Rattle.std.proofs.Common.{refl, ◌∙◌}
use Rattle.cc_workers.proofs.WorkerStepLaws.{none_due}
use Rattle.cc_workers.proofs.caller.CallerSource.told.Goals as goal

pub returns-else-act : goal.returns-else-act
returns-else-act g c =
    (refl, c.take.ensures.after ∙ none_due c.args.event c.args.answer _ c.act.result _ c.duty_of-duty.ensures c.act.ensures c.if-act.false)
