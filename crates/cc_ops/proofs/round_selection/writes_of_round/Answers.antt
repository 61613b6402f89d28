use Rattle.std.proofs.Common.{List, sym, ap, ◌∙◌}
use Rattle.cc_ops.specs.declared.pending_operation.Asked.{Asked}
use Rattle.cc_ops.specs.WaitingAsks.{writes_by}
use Rattle.cc_ops.specs.Rounds.{first_round}
use Rattle.cc_ops.specs.RoundLaws.{reads_none}
use Rattle.cc_ops.proofs.round_selection.writes_of_round.Goals as goal

pub returns-else-is_writing-clause-count : goal.returns-else-is_writing-clause-count
returns-else-is_writing-clause-count c =
    let reads = sym c.is_writing.ensures ∙ c.if-is_writing.false in
    sym (reads_none c.args.share c.in-Some.asked.now c.in-Some.behind.now reads)
    ∙ ap (λ (l : List Asked). writes_by (first_round c.args.share l)) (sym c.in-Some.ensures.cases.0)
