use Rattle.std.proofs.Common.{take}
use Rattle.std.specs.List.{AllByRecursion}
use Rattle.cc_wire.specs.Spellings.{IsRow}
use Rattle.cc_wire.proofs.spellable.rows_are_spellable.Given as goal

abbrev pub invariant-loop-row : goal.invariant-loop-row
invariant-loop-row l = AllByRecursion IsRow (take l.row-index l.rows)
