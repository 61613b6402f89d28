use Rattle.std.proofs.Common.{take}
use Rattle.std.specs.List.{AllByRecursion}
use Rattle.cc_node_state.specs.States.{IsAsk}
use Rattle.cc_node_state.proofs.spellable.asks_are_spellable.Given as goal

abbrev pub invariant-loop-asked : goal.invariant-loop-asked
invariant-loop-asked l = AllByRecursion IsAsk (take l.asked-index l.asks)
