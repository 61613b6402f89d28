use Rattle.std.proofs.Common.{◌≡◌, drop}
use Rattle.cc_ops.specs.WaitingAsks.{written_by}
use Rattle.cc_ops.proofs.ask_list.last_value.Given as goal

abbrev pub invariant-loop-asked : goal.invariant-loop-asked
invariant-loop-asked l = written_by (drop l.asked-index l.asks) l.value ≡ written_by l.asks l.fn.mine
