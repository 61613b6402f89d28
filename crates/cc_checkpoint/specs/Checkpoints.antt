-- A checkpoint, on a site: a side is filled behind its closed gate while the other one is in use, its gate is opened, and
-- the other side is retired.
--     IsShutNow, IsSurelyShut   a crash leaves no open gate;  it leaves none where a read gives none
--     image_of, IsFilled        what stands behind the gate of a side that holds the node and no record;  the side has that, behind a closed gate
--     Behind, StaysBehind       what changes lies behind the gate of one side;  so it is at each moment
--     RestsOff, RestsOn, KeepsOff     the other side holds the node, and this one yields;  from every history for which it does so, at each moment
--     IsGoodForAll                    the moment is good, with all events durable
--     ArmsFor                   a history after which a side that was filled may be armed
use Rattle.std.specs.Prelude.{◌≡◌, ◌≢◌, ◌<◌, ℕ, List, ◌∷◌, length, take}
use Rattle.cc_messages.specs.declared.event.Event.{Event}
use Rattle.cc_messages.specs.declared.output.Output.{Output}
use Rattle.cc_site.specs.declared.site.Side.{Side}
use Rattle.cc_site.specs.declared.site.Side.TheVariants.{A}
use Rattle.cc_site.specs.declared.site.Site.{Ghosts}
use Rattle.cc_site.specs.Sides.{SideState, MayLeave, other, durable}
use Rattle.cc_site.specs.Moments.{Contents, SeenFrom}
use Rattle.cc_site.specs.Gates.{IsShut}
use Rattle.cc_site.specs.Runs.{EachMoment}
use Rattle.cc_site.specs.Crashes.{AfterCrash}
use Rattle.cc_node.specs.Node.{Node, after}
use Rattle.cc_node_state.specs.Layouts.{version_of}
use Rattle.cc_node_state.specs.States.{layout_of_node, node_spelling}
use Rattle.cc_node_state.specs.Sides.{OPEN}
use Rattle.cc_node_state.specs.Good.{IsGoodAt, RestsAt}
use Rattle.cc_checkpoint.specs.Images.{image_spelling, SpellsImage}

abbrev pub IsShutNow : SideState → Type 0
IsShutNow s = (bytes : List ℕ) → MayLeave s bytes → IsShut bytes

abbrev pub IsSurelyShut : SideState → Type 0
IsSurelyShut s = IsShut s.bytes → IsShutNow s

abbrev pub image_of : ℕ → Node → List ℕ
image_of generation node = image_spelling (version_of (layout_of_node node)) generation (node_spelling node)

-- a closed gate and the image, all of it made sure of
pub record IsFilled (s : SideState) (generation : ℕ) (node : Node) : Type 0 where
  pub gate : ℕ
  pub closed : gate ≢ OPEN
  pub is : s ≡ durable (gate ∷ image_of generation node)
  pub spelled : SpellsImage (image_of generation node) generation node

-- the gate of this side is one that it might have had, the other side is as it was, and nothing was put
pub record Behind (state others_state : SideState) (sent : List Output) (bytes others : List ℕ) (told : List Output) : Type 0 where
  pub was : List ℕ
  pub possible : MayLeave state was
  pub gate : take 1 bytes ≡ take 1 was
  pub rest : MayLeave others_state others
  pub outlet : told ≡ sent

-- the other side holds the node after all events, under this generation and up to the gate at `place`
abbrev pub RestsOff : Side → ℕ → ℕ → Node → List Event → ℕ → Contents → List Output → Type 0
RestsOff side generation place start events opening = SeenFrom (other side) (RestsAt generation place start events opening)

-- the moment is good, with all events durable
abbrev pub IsGoodForAll : Node → List Event → ℕ → Contents → List Output → Type 0
IsGoodForAll start events opening = SeenFrom A (IsGoodAt start events (length events) opening)

module _ {D : Type 0} (s : Ghosts D) where
  -- so it is at each moment
  abbrev pub StaysBehind : Side → D → D → Type 0
  StaysBehind side old new = EachMoment s old new (SeenFrom side (Behind (s.state old side) (s.state old (other side)) (s.sent old)))

  abbrev pub RestsOn : D → Side → ℕ → ℕ → Node → List Event → ℕ → Type 0
  RestsOn site side generation place start events opening =
      AfterCrash (s.state site) (s.sent site) (SeenFrom side (RestsAt generation place start events opening))

  abbrev pub KeepsOff : Side → D → D → Type 0
  KeepsOff side old new =
      (generation place : ℕ) (start : Node) (events : List Event) (opening : ℕ) → RestsOn old (other side) generation place start events opening
      → EachMoment s old new (RestsOff side generation place start events opening)

  -- the other side holds the node under a lower generation than this one was filled with
  pub record ArmsFor (side : Side) (site : D) (next : ℕ) (start : Node) (events : List Event) (opening : ℕ) : Type 0 where
    pub generation : ℕ
    pub place : ℕ
    pub rests : RestsOn site (other side) generation place start events opening
    pub filled : IsFilled (s.state site side) next (after start events)
    pub above : generation < next
