-- How a later view stands to an earlier one.
--     GoesOn a b           the pair is there still, or one with a greater number
--     IsFollowedBy v w     at each node w goes on from v
--     AreComparable v w    one of the two is at most the other
use Rattle.std.specs.Prelude.{◌≡◌, ◌<◌, ◌⊎◌, ℕ, Option, IfSome, IsSomeAnd}
use Rattle.std.specs.FinMap as table
use Rattle.cc_views.specs.Rows.{Pair, ViewMap}
use Rattle.cc_views.specs.Merge.{IsAtMost}

abbrev pub GoesOn : Option Pair → Option Pair → Type 0
GoesOn a b = IfSome a (λ p. IsSomeAnd b (λ q. (p.0 < q.0) ⊎ (p ≡ q)))

abbrev pub IsFollowedBy : ViewMap → ViewMap → Type 0
IsFollowedBy v w = (node : ℕ) → GoesOn (table.get v node) (table.get w node)

abbrev pub AreComparable : ViewMap → ViewMap → Type 0
AreComparable v w = IsAtMost v w ⊎ IsAtMost w v
