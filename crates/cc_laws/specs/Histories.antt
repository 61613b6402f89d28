-- One history of a node: a list of events, accepted one after the other.
--     view_at n es k           the node's view after the first k events
--     IsViewOf n es v          v is the node's view at some point of the list
--     Appears n es v           the node shows v at some point of the list, or it is put out along it
--     IsMadeIn n es o          one of the events makes the output, at the node after those before it
--     BringsOldRows n es       no delivered view has a row of the node itself numbered 0, or above its own number by then
use Rattle.std.specs.Prelude.{◌≡◌, ℕ, ◌<◌, ◌≤◌, List, [], ◌∷◌, ◌++◌, take, Option, Some, IfSome, ⊤}
use Rattle.std.specs.List.{Contains}
use Rattle.std.specs.FinMap as table
use Rattle.cc_views.specs.Rows.{Pair, ViewMap}
use Rattle.cc_messages.specs.declared.event.Event.{Event}
use Rattle.cc_messages.specs.declared.output.Output.{Output}
use Rattle.cc_node.specs.Core.{Core, outputs}
use Rattle.cc_node.specs.Node.{Node, after, line, step}
use Rattle.cc_laws.specs.Shown.{in_event, in_output, Shows}

abbrev pub view_at : Node → List Event → ℕ → ViewMap
view_at n es k = (after n (take k es)).core.ops.view

abbrev pub IsViewOf : Node → List Event → ViewMap → Type 0
IsViewOf n es v = (k : ℕ) × (v ≡ view_at n es k)

pub data Appears (n : Node) (es : List Event) (v : ViewMap) : Type 0 where
  shown : (k : ℕ) → Shows (after n (take k es)) v → Appears n es v
  put : (o : Output) → Contains (line n es) o → in_output o ≡ Some v → Appears n es v

pub record IsMadeIn (n : Node) (es : List Event) (o : Output) : Type 0 where
  pub before : List Event
  pub event : Event
  pub later : List Event
  pub parts : es ≡ before ++ event ∷ later
  pub makes : Contains (outputs (after n before).core event) o

-- a pair, if there is one, is numbered from 1 up to that number
abbrev pub IsOld : ℕ → Option Pair → Type 0
IsOld number pair = IfSome pair (λ p. (0 < p.0) × (p.0 ≤ number))

abbrev pub BringsOld : Core → Event → Type 0
BringsOld c e = IfSome (in_event e) (λ v. IsOld c.ops.number (table.get v c.me))

abbrev pub BringsOldRows : Node → List Event → Type 0
BringsOldRows n [] = ⊤
BringsOldRows n (e ∷ es) = BringsOld n.core e × BringsOldRows (step n e) es
