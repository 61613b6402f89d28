-- How many nodes a merge has.
use Rattle.std.specs.Prelude.{◌+◌, ◌≤◌}
use Rattle.std.specs.FinMap.{len}
use Rattle.cc_views.specs.NatSets.{NatSet, IsWithin}
use Rattle.cc_views.specs.Rows.{ViewMap}
use Rattle.cc_views.specs.Merge.{merge}

-- a merge has no more nodes than both sides together
abbrev pub MergeIsNoLarger : Type 0
MergeIsNoLarger = (v w : ViewMap) → len (merge v w) ≤ len v + len w

-- where each node of both sides is in a set of ids, the merge has no more nodes than the set
abbrev pub MergeStaysWithin : Type 0
MergeStaysWithin = (v w : ViewMap) (ids : NatSet) → IsWithin v ids → IsWithin w ids → len (merge v w) ≤ len ids
