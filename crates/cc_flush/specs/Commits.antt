-- What a call makes of an engine, and of each history that led to it.
--     LeadsTo, HasLived       these events led to its node, and the moment is good for them;  lawful events, from a lawful node on
--     LeadsToOwed             with the events of the batch that is owed
--     LeadsToSides            these events led to its node, and whatever a crash leaves now, its sides stand for that
--     Advances, Flushes       it has taken in events, and put outputs;  those of a batch
--     GivesUp                 a disk call failed: nothing was put, and no event was taken in
--     Commits, FlushFails     the disk calls on a side that make a batch durable;  one of them failed
--     CommitStops             how the side is then
--     PutsAgain               it has put outputs, and is as it was otherwise
use Rattle.std.specs.Prelude.{◌≡◌, ◌↔◌, ◌⊎◌, ℕ, ◌+◌, List, ◌++◌, length, false, None, Some}
use Rattle.cc_messages.specs.declared.event.Event.{Event}
use Rattle.cc_messages.specs.declared.output.Output.{Output}
use Rattle.cc_site.specs.declared.site.Side.{Side}
use Rattle.cc_site.specs.declared.site.Site.{Ghosts}
use Rattle.cc_site.specs.declared.site.Call.{Call}
use Rattle.cc_site.specs.declared.site.Call.TheVariants.{Write, Sync}
use Rattle.cc_site.specs.declared.site.DeviceFault.{DeviceFault}
use Rattle.cc_site.specs.Sides.{SideState, HalfWritten}
use Rattle.cc_site.specs.ToldFaults.{Tells}
use Rattle.cc_node.specs.Lawful.{IsLawfulNode}
use Rattle.cc_node.specs.Node.{Node, IsLawful, after, line}
use Rattle.cc_checkpoint.specs.declared.side_choice.InUse.{InUse}
use Rattle.cc_journal.specs.declared.entry.Entry.{Entry}
use Rattle.cc_journal.specs.Batches.{events_in}
use Rattle.cc_journal.specs.GoodSides.{HasGoodSidesNow, KeepsSides}
use Rattle.cc_journal.specs.Journals.{MayHaveOpened, bytes_ahead, with_record, IsGoodNow, KeepsGood, StaysGood}
use Rattle.cc_flush.specs.Engine.{Engine, in_use_of}
use Rattle.cc_journal.specs.Outlet.{Puts}

abbrev pub Commits : Side → Side → Call → Type 0
Commits this side call = (side ≡ this) × ((call ≡ Write) ⊎ (call ≡ Sync))

-- the record is being written;  or it is made sure of, and its gate is opened
abbrev pub CommitStops : (stride used : ℕ) → SideState → ℕ → List Entry → SideState → Type 0
CommitStops stride used was place batch now =
    (HalfWritten was (place + 1) (length (bytes_ahead stride used place batch)) now ⊎ (now ≡ was))
    ⊎ MayHaveOpened (with_record stride used was place batch) place now

module _ {D : Type 0} (s : Ghosts D) where
  pub record LeadsTo (engine : Engine D) (start : Node) (events : List Event) (opening : ℕ) : Type 0 where
    pub twin : engine.twin ≡ after start events
    pub good : IsGoodNow s engine.site start events opening

  pub record HasLived (engine : Engine D) (start : Node) (events : List Event) (opening : ℕ) : Type 0 where
    pub sound : IsLawfulNode start
    pub lawful : IsLawful start events
    pub twin : engine.twin ≡ after start events
    pub good : IsGoodNow s engine.site start events opening

  pub record LeadsToOwed (entries : List Entry) (engine : Engine D) (start : Node) (events : List Event) (opening : ℕ) : Type 0 where
    pub before : List Event
    pub parts : events ≡ before ++ events_in entries
    pub twin : engine.twin ≡ after start before
    pub good : IsGoodNow s engine.site start events opening

  pub record LeadsToSides (engine : Engine D) (start : Node) (events : List Event) : Type 0 where
    pub twin : engine.twin ≡ after start events
    pub sides : HasGoodSidesNow s engine.site start events

  -- No output came before its event was durable. This side is now in use, under this generation.
  pub record Advances (led : Engine D → Node → List Event → ℕ → Type 0) (more : List Event) (outputs : List Output) (used : InUse)
      (old new : Engine D) : Type 0 where
    pub twin : new.twin ≡ after old.twin more
    pub owes : new.owes ≡ false
    pub goes_on : new.failed ≡ None
    pub in_use : in_use_of new ≡ used
    pub same_honest : s.honest old.site ↔ s.honest new.site
    pub told : s.tells new.site → s.tells old.site × (s.sent new.site ≡ s.sent old.site ++ outputs)
    pub moments : s.honest old.site → s.tells new.site → KeepsGood s (led old) more old.site new.site
    pub afterwards : s.honest old.site → s.tells new.site → (start : Node) (events : List Event) (opening : ℕ) → led old start events opening
        → led new start (events ++ more) opening
    -- so it is with the sides, also where the outlet doesn't tell
    pub sides : s.honest old.site → KeepsSides s (LeadsToSides old) more old.site new.site
    pub sides_afterwards : s.honest old.site → (start : Node) (events : List Event) → LeadsToSides old start events → LeadsToSides new start (events ++ more)
    pub same_failures : s.failures new.site ≡ s.failures old.site

  abbrev pub Flushes : List Entry → Engine D → Engine D → Type 0
  Flushes batch old new = Advances LeadsTo (events_in batch) (line old.twin (events_in batch)) (in_use_of old) old new

  pub record GivesUp (led : Engine D → Node → List Event → ℕ → Type 0) (more : List Event) (calls : Side → Call → Type 0)
      (old new : Engine D) (fault : DeviceFault) : Type 0 where
    pub twin : new.twin ≡ old.twin
    pub owes : new.owes ≡ false
    pub at : new.at ≡ old.at
    pub used : new.used ≡ old.used
    pub failed : new.failed ≡ Some fault
    pub same_generation : new.generation ≡ old.generation
    pub same_honest : s.honest old.site ↔ s.honest new.site
    pub told : (s.tells old.site ↔ s.tells new.site) × (s.sent new.site ≡ s.sent old.site)
    pub moments : s.honest old.site → KeepsGood s (led old) more old.site new.site
    pub sides : s.honest old.site → KeepsSides s (LeadsToSides old) more old.site new.site
    pub device : Tells calls (s.failures old.site) (s.failures new.site) fault

  abbrev pub FlushFails : List Entry → Engine D → Engine D → DeviceFault → Type 0
  FlushFails batch old new fault = GivesUp LeadsTo (events_in batch) (Commits old.at.side) old new fault

  pub record PutsAgain (outputs : List Output) (old new : Engine D) : Type 0 where
    pub twin : new.twin ≡ old.twin
    pub at : new.at ≡ old.at
    pub generation : new.generation ≡ old.generation
    pub used : new.used ≡ old.used
    pub owes : new.owes ≡ old.owes
    pub owed : new.owed ≡ old.owed
    pub failed : new.failed ≡ old.failed
    pub puts : Puts s outputs old.site new.site
    pub good : s.honest old.site → s.tells new.site → StaysGood s (HasLived old) old.site new.site
