use Rattle.std.proofs.Common.{take}
use Rattle.std.specs.List.{AllByRecursion}
use Rattle.cc_wire.specs.Spellings.{IsId}
use Rattle.cc_wire.proofs.spellable.ids_are_spellable.Given as goal

abbrev pub invariant-loop-id : goal.invariant-loop-id
invariant-loop-id l = AllByRecursion IsId (take l.id-index l.ids)
