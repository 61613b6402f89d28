use Rattle.std.proofs.Common.{◌≡◌, drop}
use Rattle.cc_views.specs.NatSets as set
use Rattle.cc_node.proofs.opening.insert_numbers.Given as goal

abbrev pub invariant-loop-number : goal.invariant-loop-number
invariant-loop-number l = set.insert_all l.ids (drop l.number-index l.numbers) ≡ set.insert_all l.fn.ids l.numbers
