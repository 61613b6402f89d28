use Rattle.std.proofs.Common.{◌≡◌, ◌++◌, take}
use Rattle.cc_status.proofs.members.push_all.Given as goal

abbrev pub invariant-loop-id : goal.invariant-loop-id
invariant-loop-id l = l.numbers.items ≡ l.initial.numbers.items ++ take l.id-index l.ids
