-- A node that was opened and written anew.
--     IsWrittenAnew       the side that it was found on isn't in use any more, and the one in use is its image, made sure of
--     IsAnew              so it is, unless no generation is left for that
--     HoldsTwice          each side holds the node
--     older_of            of two armed sides the one with the lower generation
--     IsArmedAgain        then the gate of the one with the greater generation was written once more, and made sure of
--     LeadsToSite         these events led to what the sides hold, the durable ones of them whatever a crash leaves now
--     StaysDurable        from every history that led to a run of calls on, each moment of it is good, and so is the one after it
--     IsReopened          the node after as many events as were found, and all of these are durable
--     ReadsSame           a read of either side gives what it gave
--     AnyCall             each disk call
use Rattle.std.specs.Prelude.{⊤, ◌≡◌, ◌⊎◌, ◌<◌, ◌≤◌, ℕ, nat_lt, if◌then◌else◌, List, [], ◌∷◌, length, take, Option, Some, None}
use Rattle.cc_messages.specs.declared.event.Event.{Event}
use Rattle.cc_site.specs.declared.site.Site.{Ghosts}
use Rattle.cc_site.specs.declared.site.Side.{Side}
use Rattle.cc_site.specs.declared.site.Call.{Call}
use Rattle.cc_site.specs.declared.site.Side.TheVariants.{A, B}
use Rattle.cc_site.specs.Sides.{SideState, durable, other, settled, written}
use Rattle.cc_site.specs.Moments.{Contents}
use Rattle.cc_site.specs.Reads.{bytes_of}
use Rattle.cc_site.specs.Runs.{EachMoment}
use Rattle.cc_site.specs.Crashes.{AfterCrash}
use Rattle.cc_node.specs.Node.{Node, after}
use Rattle.cc_node_state.specs.Sides.{OPEN, IsArmed, generation_of, Holds}
use Rattle.cc_checkpoint.specs.declared.side_choice.Peeked.{Peeked}
use Rattle.cc_checkpoint.specs.declared.side_choice.Peeked.TheVariants.{Armed}
use Rattle.cc_checkpoint.specs.Checkpoints.{image_of}
use Rattle.cc_journal.specs.Journals.{IsGood, IsGoodNow}
use Rattle.cc_views.specs.Limits.{counter_limit}
use Rattle.cc_flush.specs.Engine.{Engine}

abbrev pub ReadsSame : Contents → Contents → Type 0
ReadsSame old new = (side : Side) → new side ≡ old side

abbrev pub AnyCall : Side → Call → Type 0
AnyCall side call = ⊤

abbrev pub HoldsTwice : Contents → Node → Type 0
HoldsTwice read node = (side : Side) → (generation : ℕ) × (place : ℕ) × Holds (read side) generation node place

abbrev pub older_of : Peeked → Peeked → Option Side
older_of (Armed a) (Armed b) = if nat_lt a b then Some A else Some B
older_of (Armed a) _ = None
older_of _ second = None

abbrev pub IsArmedAgain : (Side → SideState) → (Side → SideState) → Type 0
IsArmedAgain old new =
    ((side : Side) → IsArmed (old side).bytes × (9 ≤ length (old side).bytes))
    → (newer : Side) → generation_of (old (other newer)).bytes < generation_of (old newer).bytes
    → new newer ≡ settled (written (old newer) 0 (OPEN ∷ []))

module _ {D : Type 0} (s : Ghosts D) where
  pub record IsWrittenAnew (e : Engine D) : Type 0 where
    pub side : e.at.side ≡ other e.opened.side
    pub holds : s.state e.site e.at.side ≡ durable (OPEN ∷ image_of e.generation e.twin)

  abbrev pub IsAnew : Engine D → Type 0
  IsAnew e = (counter_limit ≤ e.generation) ⊎ IsWrittenAnew e

  -- Whatever a crash leaves now has the durable events. A move begins where all are durable, and leaves both sides armed from the moment
  -- that arms the one to the moment that closes the other: then each of them holds the node.
  pub record LeadsToSite (site : D) (start : Node) (events : List Event) (durable opening : ℕ) : Type 0 where
    pub good : AfterCrash (s.state site) (s.sent site) (IsGood start events durable opening)
    pub twice : IsArmed (bytes_of s site A) → IsArmed (bytes_of s site B)
        → (length events ≤ durable) × HoldsTwice (bytes_of s site) (after start events)

  pub record StaysDurable (old new : D) : Type 0 where
    pub moments : (start : Node) (events : List Event) (durable opening : ℕ) → LeadsToSite old start events durable opening
        → EachMoment s old new (IsGood start events durable opening)
    pub afterwards : (start : Node) (events : List Event) (durable opening : ℕ) → LeadsToSite old start events durable opening
        → AfterCrash (s.state new) (s.sent new) (IsGood start events durable opening)

  pub record IsReopened (e : Engine D) (start : Node) (events : List Event) (durable opening : ℕ) : Type 0 where
    pub prefix : ℕ
    pub has_durable : durable ≤ prefix
    pub within : prefix ≤ length events
    pub twin : e.twin ≡ after start (take prefix events)
    pub good : IsGoodNow s e.site start (take prefix events) opening
