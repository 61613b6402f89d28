-- The merge of two views, and when a view is at most another.
--     merge v w        a node in one of them keeps its pair, and one in both has the pair with the greater number, v's where they tie
--     IsAtMost v w     each node of v is in w with at least that number
--     Agree v w        no node has two values under one number
use Rattle.std.specs.Prelude.{◌≡◌, ℕ, ◌≤◌, Bool, false, ◌++◌, map, Option, Some, None, IfSome, IsSomeAnd, ⊤, nat_le}
use Rattle.std.specs.FinMap.{get, entries, from_entries}
use Rattle.cc_views.specs.declared.row.Row.{Row}
use Rattle.cc_views.specs.Rows.{Pair, ViewMap, newer}

-- what the merge has of a node, by what each side has of it
abbrev pub merged : Option Pair → Option Pair → Option Pair
merged None None = None
merged None (Some right) = Some right
merged (Some left) None = Some left
merged (Some left) (Some right) = Some (newer left right)

-- a pair of the left side, and what the right side has of its node
abbrev pub newer_or_left : Pair → Option Pair → Pair
newer_or_left left None = left
newer_or_left left (Some right) = newer left right

-- the nodes of either side; at each node `merged` of what the sides have (MergesAtEachNode)
unfoldable pub merge : ViewMap → ViewMap → ViewMap
merge v w = from_entries (map (λ e. (e.0, newer_or_left e.1 (get w e.0))) (entries v) ++ entries w)

abbrev pub MergesAtEachNode : Type 0
MergesAtEachNode = (v w : ViewMap) (node : ℕ) → get (merge v w) node ≡ merged (get v node) (get w node)

-- a pair is there still, or one with a greater number
abbrev pub IsKept : Option Pair → Option Pair → Type 0
IsKept p q = IfSome p (λ a. IsSomeAnd q (λ b. a.0 ≤ b.0))

abbrev pub IsAtMost : ViewMap → ViewMap → Type 0
IsAtMost v w = (node : ℕ) → IsKept (get v node) (get w node)

abbrev pub AgreeAt : Option Pair → Option Pair → Type 0
AgreeAt (Some p) (Some q) = p.0 ≡ q.0 → p.1 ≡ q.1
AgreeAt (Some p) None = ⊤
AgreeAt None q = ⊤

abbrev pub Agree : ViewMap → ViewMap → Type 0
Agree v w = (node : ℕ) → AgreeAt (get v node) (get w node)

-- the test of one row: its node is in the view with at least its number
abbrev pub has_at_least : Option Pair → ℕ → Bool
has_at_least None number = false
has_at_least (Some p) number = nat_le number p.0

abbrev pub keeps : ViewMap → Row → Bool
keeps v row = has_at_least (get v row.node) row.number
