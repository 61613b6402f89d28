-- What a crash leaves of the two sides, also where nothing is known of what was put.
--     MayBeLeft           a crash may leave these contents
--     HasGoodSides        the sides stand for the node after a prefix of the events that has the durable ones
--     EachLeaves          at each moment of a run of calls a crash leaves such contents
--     HasGoodSidesNow     whatever a crash leaves now, the sides stand for the node after all events
--     KeepsSides          from every history that led to a call on, the sides are good at each moment of it
use Rattle.std.proofs.Common.{ℕ, ◌≤◌, List, ◌++◌, length, take}
use Rattle.cc_messages.specs.declared.event.Event.{Event}
use Rattle.cc_site.specs.declared.site.Side.{Side}
use Rattle.cc_site.specs.declared.site.Side.TheVariants.{A, B}
use Rattle.cc_site.specs.declared.site.Site.{Ghosts}
use Rattle.cc_site.specs.Sides.{SideState, MayLeave}
use Rattle.cc_site.specs.Moments.{Contents}
use Rattle.cc_site.specs.Runs.{EachMoment}
use Rattle.cc_node.specs.Node.{Node, after}
use Rattle.cc_node_state.specs.Sides.{Stands}

abbrev pub MayBeLeft : (Side → SideState) → Contents → Type 0
MayBeLeft state left = (side : Side) → MayLeave (state side) (left side)

pub record HasGoodSides (start : Node) (events : List Event) (durable : ℕ) (left : Contents) : Type 0 where
  pub a_there : 1 ≤ length (left A)
  pub b_there : 1 ≤ length (left B)
  pub prefix : ℕ
  pub has_durable : durable ≤ prefix
  pub within : prefix ≤ length events
  pub stands : Stands (left A) (left B) (after start (take prefix events))

module _ {D : Type 0} (s : Ghosts D) where
  abbrev pub EachLeaves : (Contents → Type 0) → D → D → Type 0
  EachLeaves P old new = EachMoment s old new (λ left told. P left)

  abbrev pub HasGoodSidesNow : D → Node → List Event → Type 0
  HasGoodSidesNow site start events = (left : Contents) → MayBeLeft (s.state site) left → HasGoodSides start events (length events) left

  -- The sides stand for the node after some of the events and of those that come, of which none need be durable.
  abbrev pub KeepsSides : (Node → List Event → Type 0) → List Event → D → D → Type 0
  KeepsSides led more old new =
      (start : Node) (events : List Event) → led start events → EachLeaves (HasGoodSides start (events ++ more) (length events)) old new
