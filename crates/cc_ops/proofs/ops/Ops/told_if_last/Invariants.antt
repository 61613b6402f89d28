use Rattle.std.proofs.Common.{◌≡◌, ◌∷◌, map, take}
use Rattle.cc_ops.specs.Ops.{told}
use Rattle.cc_ops.proofs.ops.Ops.told_if_last.Given as goal

abbrev pub invariant-loop-asked : goal.invariant-loop-asked
invariant-loop-asked l = l.replies ≡ map (told l.seen) (l.pending.asked ∷ take l.asked-index l.asked-items)
