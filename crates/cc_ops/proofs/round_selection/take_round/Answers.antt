use Rattle.std.proofs.Common.{◌-◌, ap, length, arith}
use Rattle.cc_ops.specs.RoundLaws.{count_still}
use Rattle.cc_ops.proofs.round_selection.take_round.Goals as goal

pub part-requires-clause-round : goal.part-requires-clause-round
part-requires-clause-round c =
    let whole = c.in_ok-asked.ensures.cases.0 in
    omega (arith, count_still c.is_writing.result (c.args.share - 1) c.in_ok-asked.behind.now, c.asks.ensures.few, ap length whole, ap length c.clear.ensures)

pub part-requires-clause-rest : goal.part-requires-clause-rest
part-requires-clause-rest c =
    let whole = c.in_ok-asked.ensures.cases.0 in
    omega (arith, count_still c.is_writing.result (c.args.share - 1) c.in_ok-asked.behind.now, c.asks.ensures.few, ap length whole, ap length c.clear-2.ensures)
