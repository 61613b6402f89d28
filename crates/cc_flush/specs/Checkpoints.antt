-- A checkpoint of an engine: its node goes to the other side.
--     RestsFrom         a history that led to this node, and for which a side holds it
--     Moves             what a checkpoint makes of an engine
--     Begins            the disk calls that see to it that a side has a byte
--     MoveCalls         all its disk calls, on the side in use and on the other one
--     BeginStops        where the first byte of a side that is empty can't be written
--     FilledStops       where a side can't be begun, filled or armed
--     SidesStop         which call of it failed, and how both sides are then
--     MoveFails, MoveStops     a disk call of it failed, and the engine has ended;  why it ended early
use Rattle.std.specs.Prelude.{◌≡◌, ◌⊎◌, ◌+◌, ℕ, List, ◌∷◌, [], length, None, Some}
use Rattle.cc_messages.specs.declared.event.Event.{Event}
use Rattle.cc_site.specs.declared.site.Site.{Ghosts}
use Rattle.cc_site.specs.declared.site.Side.{Side}
use Rattle.cc_site.specs.declared.site.Call.{Call}
use Rattle.cc_site.specs.declared.site.Call.TheVariants.{Length}
use Rattle.cc_site.specs.declared.site.DeviceFault.{DeviceFault}
use Rattle.cc_site.specs.ToldFaults.{Tells}
use Rattle.cc_site.specs.Sides.{SideState, other, durable, MayHaveWritten}
use Rattle.cc_node.specs.Node.{Node, after}
use Rattle.cc_node_state.specs.Sides.{OPEN}
use Rattle.cc_checkpoint.specs.Checkpoints.{image_of, IsFilled}
use Rattle.cc_checkpoint.specs.Stops.{WritesOrSyncs, Fills, Retires, HasClosed, FillStops, RetireStops}
use Rattle.cc_journal.specs.Journals.{Position, RestsNow}
use Rattle.cc_flush.specs.declared.flusher.CheckpointFault.{CheckpointFault}
use Rattle.cc_flush.specs.declared.flusher.CheckpointFault.TheVariants.{Failed, Spent}
use Rattle.cc_flush.specs.Engine.{Engine}

abbrev pub Begins : Side → Side → Call → Type 0
Begins this side call = (side ≡ this) × ((call ≡ Length) ⊎ WritesOrSyncs call)

-- the side that isn't in use is looked at, begun, filled and armed; then the one in use is retired
abbrev pub MoveCalls : Side → Side → Call → Type 0
MoveCalls in_use side call = Begins (other in_use) side call ⊎ Fills (other in_use) side call ⊎ Retires in_use side call

abbrev pub BeginStops : SideState → Call → SideState → Type 0
BeginStops was call now = ((call ≡ Length) × (now ≡ was)) ⊎ (WritesOrSyncs call × MayHaveWritten was 0 (0 ∷ []) now)

abbrev pub FilledStops : ℕ → Node → SideState → Call → SideState → Type 0
FilledStops generation node was call now =
    BeginStops was call now
    ⊎ ((begun : SideState) × HasClosed was begun × FillStops begun call now)
    ⊎ ((filled : SideState) × IsFilled filled generation node × WritesOrSyncs call × MayHaveWritten filled 0 (OPEN ∷ []) now)

-- the side in use is as it was, while the other one is filled and armed; that one holds the node, while the old one is retired
abbrev pub SidesStop : Side → ℕ → Node → (Side → SideState) → (Side → SideState) → DeviceFault → Type 0
SidesStop in_use generation node old new fault =
    ((fault.side ≡ other in_use) × (new in_use ≡ old in_use) × FilledStops generation node (old (other in_use)) fault.call (new (other in_use)))
    ⊎ ((fault.side ≡ in_use) × (new (other in_use) ≡ durable (OPEN ∷ image_of generation node)) × RetireStops (old in_use) fault.call (new in_use))

module _ {D : Type 0} (s : Ghosts D) where
  pub record RestsFrom (node : Node) (at : Position) (generation : ℕ) (site : D) (start : Node) (events : List Event) (opening : ℕ) : Type 0 where
    pub is : node ≡ after start events
    pub rests : RestsNow s site at generation start events opening

  -- The other side is in use, under the next generation, and holds the node and no record. The old side is one closed byte.
  pub record Moves (old new : Engine D) : Type 0 where
    pub side : new.at.side ≡ other old.at.side
    pub place : new.at.place ≡ length (image_of new.generation old.twin)
    pub used : new.used ≡ new.at.place + 1
    pub generation : new.generation ≡ old.generation + 1
    pub goes_on : new.failed ≡ None
    pub holds : s.honest old.site → s.state new.site new.at.side ≡ durable (OPEN ∷ image_of new.generation old.twin)
    pub retired : s.honest old.site → s.state new.site old.at.side ≡ durable (0 ∷ [])
    pub same_failures : s.failures new.site ≡ s.failures old.site

  -- The engine has ended as it was. No more than these calls on its sides was done.
  pub record MoveFails (old new : Engine D) (fault : DeviceFault) : Type 0 where
    pub at : new.at ≡ old.at
    pub used : new.used ≡ old.used
    pub generation : new.generation ≡ old.generation
    pub failed : new.failed ≡ Some fault
    pub device : Tells (MoveCalls old.at.side) (s.failures old.site) (s.failures new.site) fault
    pub sides : s.honest old.site → SidesStop old.at.side (old.generation + 1) old.twin (s.state old.site) (s.state new.site) fault

  abbrev pub MoveStops : Engine D → Engine D → CheckpointFault → Type 0
  MoveStops old new (Failed f) = MoveFails old new f.fault
  MoveStops old new Spent = ⊥
