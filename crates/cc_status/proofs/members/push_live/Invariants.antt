use Rattle.std.proofs.Common.{◌≡◌, ◌++◌, not, take}
use Rattle.std.specs.List.{filter}
use Rattle.cc_views.specs.NatSets as set
use Rattle.cc_status.proofs.members.push_live.Given as goal

abbrev pub invariant-loop-id : goal.invariant-loop-id
invariant-loop-id l =
    l.numbers.items ≡ l.initial.numbers.items ++ filter (λ q. not (set.contains l.changes.left q)) (take l.id-index l.ids)
