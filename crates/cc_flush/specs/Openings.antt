-- What opening a site finds, and why it can't be opened.
--     HoldsRecords    a side holds the node by so many records, of so many events
--     IsCounted       that is told of the side in use
--     IsFound         the contents stand for a node, whose next record goes there
--     of_scan         a fault of the records of a side, as one of the site
--     IsReadingFault  a fault that the contents are the reason of
--     OpenFails       the fault that the reading rules name for these contents
--     Syncs, Opens    the disk calls of opening: a sync of either side, and looks at them
--     AreSettled      both sides are made sure of
--     OpenStops       what was made sure of where opening stops: side A first, then side B, and no look before that
use Rattle.std.specs.Prelude.{⊤, length, ◌≡◌, ◌⊎◌, ◌≤◌, ◌-◌, ℕ, List, drop, Ok, Err}
use Rattle.cc_site.specs.declared.site.Side.{Side}
use Rattle.cc_site.specs.declared.site.Side.TheVariants.{A, B}
use Rattle.cc_site.specs.declared.site.Call.{Call}
use Rattle.cc_site.specs.declared.site.Call.TheVariants.{Sync}
use Rattle.cc_site.specs.Sides.{SideState, other, settled}
use Rattle.cc_site.specs.Moments.{Contents}
use Rattle.cc_site.specs.ToldFaults.{Looks, LooksAtEither}
use Rattle.cc_node_state.specs.Sides.{Holds, StandsAt, events_of}
use Rattle.cc_node.specs.Node.{Node}
use Rattle.cc_checkpoint.specs.declared.side_choice.InUse.{InUse}
use Rattle.cc_checkpoint.specs.declared.open_fault.OpenFault.{OpenFault}
use Rattle.cc_checkpoint.specs.declared.open_fault.OpenFault.TheVariants.{NotFormatted, Damaged, Version, Device, NoMemory}
use Rattle.cc_checkpoint.specs.SideChoice.{chosen}
use Rattle.cc_checkpoint.specs.Heads.{HeadAt, HeadFails}
use Rattle.cc_journal.specs.declared.record_scan.ScanFault.{ScanFault}
use Rattle.cc_journal.specs.declared.record_scan.ScanFault.TheVariants as scans
use Rattle.cc_journal.specs.Journals.{Position}
use Rattle.cc_journal.specs.Scans.{StopsAt}
use Rattle.cc_flush.specs.declared.opened.Opened.{Opened}

-- Behind the state of the side stand so many records, of so many events in all. They lead to the node, up to the closed gate
-- at `place`.
pub record HoldsRecords (bytes : List ℕ) (generation : ℕ) (node : Node) (place records events : ℕ) : Type 0 where
  pub holds : Holds bytes generation node place
  pub record_count : records ≡ length holds.is_front.batches
  pub event_count : events ≡ length (events_of holds.is_front.batches)

pub record IsCounted (left : Contents) (node : Node) (at : Position) (generation : ℕ) (opened : Opened) : Type 0 where
  pub side : opened.side ≡ at.side
  pub holds : HoldsRecords (left at.side) generation node at.place opened.records opened.events

pub record IsFound (left : Contents) (node : Node) (at : Position) (generation used : ℕ) (opened : Opened) : Type 0 where
  pub stands : StandsAt (left at.side) (left (other at.side)) generation at.place node
  pub counted : IsCounted left node at generation opened
  pub length : used ≡ length (left at.side)

abbrev pub of_scan : Side → ScanFault → OpenFault
of_scan side (scans.Damaged place) = Damaged side place
of_scan side (scans.Device fault) = Device fault
of_scan side scans.NoMemory = NoMemory

abbrev pub IsReadingFault : OpenFault → Type 0
IsReadingFault NotFormatted = ⊤
IsReadingFault (Damaged side place) = ⊤
IsReadingFault (Version version) = ⊤
IsReadingFault (Device fault) = ⊥
IsReadingFault NoMemory = ⊥

-- no gate, or no record that the node takes, stands at this place of the side
abbrev pub RecordsFail : Side → List ℕ → Node → ℕ → OpenFault → Type 0
RecordsFail side bytes node first (Damaged on place) = (on ≡ side) × (first ≤ place) × StopsAt (drop first bytes) node (place - first)
RecordsFail side bytes node first NotFormatted = ⊥
RecordsFail side bytes node first (Version version) = ⊥
RecordsFail side bytes node first (Device fault) = ⊥
RecordsFail side bytes node first NoMemory = ⊥

-- the side in use has no head, or records behind its head that fail
abbrev pub SideFails : Side → List ℕ → OpenFault → Type 0
SideFails side bytes fault = HeadFails side bytes fault ⊎ ((node : Node) × (first : ℕ) × HeadAt bytes node first × RecordsFail side bytes node first fault)

-- no side is in use, or the one that is fails; a device fault and want of memory may come in place of any other
abbrev pub ReadingFails : Contents → OpenFault → Type 0
ReadingFails left fault =
    (chosen (left A) (left B) ≡ Err fault)
    ⊎ ((used : InUse) × (chosen (left A) (left B) ≡ Ok used) × SideFails used.side (left used.side) fault)

abbrev pub OpenFails : Contents → OpenFault → Type 0
OpenFails left fault = IsReadingFault fault → ReadingFails left fault

abbrev pub Syncs : Side → Call → Type 0
Syncs side call = call ≡ Sync

abbrev pub Opens : Side → Call → Type 0
Opens side call = Syncs side call ⊎ LooksAtEither side call

abbrev pub AreSettled : (Side → SideState) → (Side → SideState) → Type 0
AreSettled old new = (new A ≡ settled (old A)) × (new B ≡ settled (old B))

abbrev pub OpenStops : (Side → SideState) → (Side → SideState) → OpenFault → Type 0
OpenStops old new (Device fault) =
    ((fault.call ≡ Sync) × (fault.side ≡ A) × (new A ≡ old A) × (new B ≡ old B))
    ⊎ ((fault.call ≡ Sync) × (fault.side ≡ B) × (new A ≡ settled (old A)) × (new B ≡ old B))
    ⊎ (Looks fault.call × AreSettled old new)
OpenStops old new NotFormatted = AreSettled old new
OpenStops old new (Damaged side place) = AreSettled old new
OpenStops old new (Version version) = AreSettled old new
OpenStops old new NoMemory = AreSettled old new
