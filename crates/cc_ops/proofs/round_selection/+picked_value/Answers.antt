use Rattle.std.proofs.Common.{List, subst}
use Rattle.cc_ops.specs.declared.pending_operation.Asked.{Asked}
use Rattle.cc_ops.specs.Stages.{HasRoom}
use Rattle.cc_ops.specs.WaitingAskLaws.{first_room}
use Rattle.cc_ops.proofs.round_selection.+picked_value.Goals as goal

pub written-requires : goal.written-requires
written-requires t c =
    let mine = c.args.mine.now in
    first_room c.in-Some.asked.now c.in-Some.behind.now mine (subst (λ (l : List Asked). HasRoom l mine) c.in-Some.ensures.cases.0 c.requires)
