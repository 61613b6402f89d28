use Rattle.std.proofs.Common.{◌∷◌, List, sym, ap, subst, ◌∙◌}
use Rattle.cc_ops.specs.declared.pending_operation.Asked.{Asked}
use Rattle.cc_ops.specs.Stages.{HasRoom}
use Rattle.cc_ops.specs.WaitingAsks.{written_by}
use Rattle.cc_ops.specs.WaitingAskLaws.{first_room, no_writes}
use Rattle.cc_ops.specs.Rounds.{first_round}
use Rattle.cc_ops.specs.RoundLaws.{reads_none}
use Rattle.cc_ops.proofs.round_selection.value_of_round.Goals as goal

pub written-requires : goal.written-requires
written-requires c =
    let mine = c.args.mine.now in
    first_room c.in-Some.asked.now c.in-Some.behind.now mine (subst (λ (l : List Asked). HasRoom l mine) c.in-Some.ensures.cases.0 c.requires.room)

pub returns-else-is_writing : goal.returns-else-is_writing
returns-else-is_writing c =
    let mine = c.args.mine.now in
    let reads = sym c.is_writing.ensures ∙ c.if-is_writing.false in
    let a = c.in-Some.asked.now in
    let line = c.in-Some.behind.now in
    sym (no_writes (first_round c.args.share (a ∷ line)) mine (reads_none c.args.share a line reads))
    ∙ ap (λ (l : List Asked). written_by (first_round c.args.share l) mine) (sym c.in-Some.ensures.cases.0)
