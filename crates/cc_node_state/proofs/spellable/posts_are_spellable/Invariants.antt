use Rattle.std.proofs.Common.{take}
use Rattle.std.specs.List.{AllByRecursion}
use Rattle.std.specs.FinMap as table
use Rattle.cc_wire.specs.Messages.{IsMessage}
use Rattle.cc_node_state.proofs.spellable.posts_are_spellable.Given as goal

abbrev pub invariant-loop-at : goal.invariant-loop-at
invariant-loop-at l = AllByRecursion IsMessage (take l.at (table.values l.outbox.posts))
