-- A journal: where its next record goes.
--     Position            the side in use, and the place of the closed gate that ends its records
--     IsWritten           a batch in flight
--     record_room         how many bytes a record and its gate have at most
--     write_room          how many bytes are written of a batch at most
--     room_limit          below so many bytes of a side there is room for a record
--     to_multiple         how many bytes are missing to the next multiple of a stride
--     zeros_ahead         how many zeros go behind a record that ends there, on a side that is so long
--     end_ahead           where those end
--     bytes_ahead         a batch's record, its gate and those zeros
--     with_record         that side, where a batch was written behind the gate
--     with_open_gate      that side, where the gate was opened and all of it made sure of
--     MayHaveOpened       what it may be where that failed
--     IsAtRest            whatever a crash leaves now, that side holds the node after all events up to that gate
--     RestsNow, RestsFor  so the sides of a site rest;  and the batch that comes is lawful
--     IsGoodNow           whatever a crash leaves now, the moment is good, with all events durable
--     KeepsGood           from every history that led to a call on, each moment of it is good
--     StaysGood           the same of a call before which all events were durable, and so is the moment after it
use Rattle.std.specs.Prelude.{◌≡◌, ◌⊎◌, ◌+◌, ◌-◌, ◌%◌, ◌^◌, ◌&&◌, nat_lt, if◌then◌else◌, ℕ, List, [], ◌∷◌, ◌++◌, length, replicate}
use Rattle.cc_messages.specs.declared.event.Event.{Event}
use Rattle.cc_messages.specs.declared.output.Output.{Output}
use Rattle.cc_site.specs.declared.site.Side.{Side}
use Rattle.cc_site.specs.declared.site.Side.TheVariants.{A, B}
use Rattle.cc_site.specs.declared.site.Site.{Ghosts}
use Rattle.cc_site.specs.Sides.{SideState, other, written, settled, MayHaveWritten}
use Rattle.cc_site.specs.Moments.{Contents}
use Rattle.cc_site.specs.Runs.{EachMoment}
use Rattle.cc_site.specs.Crashes.{AfterCrash}
use Rattle.cc_node.specs.Node.{Node, IsLawful, after}
use Rattle.cc_node_state.specs.Good.{IsGoodAt, RestsAt}
use Rattle.cc_node_state.specs.Sides.{OPEN, SpellsRecord, record_spelling}
use Rattle.cc_journal.specs.declared.entry.Entry.{Entry}
use Rattle.cc_journal.specs.Batches.{events_in, batch_bytes}

pub record Position : Type 0 where
  pub side : Side
  pub place : ℕ

-- the batch has a record, which with the gate behind it has so many bytes
pub record IsWritten (entries : List Entry) (bytes : ℕ) : Type 0 where
  pub size : bytes ≡ length (batch_bytes entries)
  pub spelled : SpellsRecord (record_spelling (events_in entries)) (events_in entries)

abbrev pub record_room : ℕ
record_room = 262149

-- with the zeros behind them
abbrev pub write_room : ℕ
write_room = record_room + 262144

abbrev pub room_limit : ℕ
room_limit = 2 ^ 61

-- none where the length is one
abbrev pub to_multiple : (stride len : ℕ) → ℕ
to_multiple stride len = (stride - len % stride) % stride

-- None where the record ends within the side, nor where a side that is so long would have no room for a further record.
abbrev pub zeros_ahead : (stride used end : ℕ) → ℕ
zeros_ahead stride used end =
    if nat_lt used end && nat_lt (end + to_multiple stride end) room_limit then to_multiple stride end else 0

abbrev pub end_ahead : (stride used end : ℕ) → ℕ
end_ahead stride used end = end + zeros_ahead stride used end

-- the record goes behind the gate at `place`; the zeros behind it are closed gates too
abbrev pub bytes_ahead : (stride used place : ℕ) → List Entry → List ℕ
bytes_ahead stride used place entries =
    batch_bytes entries ++ replicate (zeros_ahead stride used (place + 1 + length (batch_bytes entries))) 0

-- these bytes written over what was behind the gate at `place`
abbrev pub with_record : (stride used : ℕ) → SideState → ℕ → List Entry → SideState
with_record stride used s place entries = written s (place + 1) (bytes_ahead stride used place entries)

-- that gate open, and nothing of the side left to a crash
abbrev pub with_open_gate : SideState → ℕ → SideState
with_open_gate s place = settled (written s place (OPEN ∷ []))

-- the first sync failed; or the write of the gate, or the sync behind it
abbrev pub MayHaveOpened : SideState → ℕ → SideState → Type 0
MayHaveOpened old place new = (new ≡ old) ⊎ MayHaveWritten (settled old) place (OPEN ∷ []) new

-- the moment is good for what a crash leaves of both sides
abbrev pub IsGood : Node → List Event → ℕ → ℕ → Contents → List Output → Type 0
IsGood start events durable opening left told = IsGoodAt start events durable opening (left A) (left B) told

-- the side holds the node after all events
abbrev pub Rests : Position → ℕ → Node → List Event → ℕ → Contents → List Output → Type 0
Rests at generation start events opening left told = RestsAt generation at.place start events opening (left at.side) (left (other at.side)) told

abbrev pub IsAtRest : (Side → SideState) → List Output → Position → ℕ → Node → List Event → ℕ → Type 0
IsAtRest state sent at generation start events opening = AfterCrash state sent (Rests at generation start events opening)

module _ {D : Type 0} (s : Ghosts D) where
  abbrev pub RestsNow : D → Position → ℕ → Node → List Event → ℕ → Type 0
  RestsNow site at generation start events opening = IsAtRest (s.state site) (s.sent site) at generation start events opening

  pub record RestsFor (batch : List Event) (site : D) (at : Position) (generation : ℕ) (start : Node) (events : List Event) (opening : ℕ) : Type 0 where
    pub rests : RestsNow site at generation start events opening
    pub lawful : IsLawful (after start events) batch

  abbrev pub IsGoodNow : D → Node → List Event → ℕ → Type 0
  IsGoodNow site start events opening = AfterCrash (s.state site) (s.sent site) (IsGood start events (length events) opening)

  -- The moments are good for the events and those that come, of which none need be durable.
  abbrev pub KeepsGood : (Node → List Event → ℕ → Type 0) → List Event → D → D → Type 0
  KeepsGood led more old new = (start : Node) (events : List Event) (opening : ℕ) → led start events opening
      → EachMoment s old new (IsGood start (events ++ more) (length events) opening)

  pub record StaysGood (led : Node → List Event → ℕ → Type 0) (old new : D) : Type 0 where
    pub moments : (start : Node) (events : List Event) (opening : ℕ) → led start events opening
        → EachMoment s old new (IsGood start events (length events) opening)
    pub afterwards : (start : Node) (events : List Event) (opening : ℕ) → led start events opening → IsGoodNow new start events opening
