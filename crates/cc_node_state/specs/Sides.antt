-- What the bytes of a side hold, and what two sides stand for.
--     OPEN, IsArmed, generation_of         the open gate;  a side that begins with it, and its generation
--     SpellsHead, SpellsRecords, IsFront   a state behind its gate, generation and version;  records behind open gates;  both
--     SpellsRecord, SpellsBatch            a list of events;  the same, and the closed gate of the next one
--     Holds, Yields                        a node up to a closed gate;  a side that counts less than a generation
--     StandsAt, Stands                     one side holds the node and the other yields;  the same, either way
use Rattle.std.specs.Prelude.{◌≡◌, ◌≢◌, ◌⊎◌, ◌<◌, ◌≤◌, ◌^◌, ◌+◌, ℕ, List, [], ◌∷◌, ◌++◌, length, take, drop, slice_index_or}
use Rattle.std.specs.List.{flat_map, AllByRecursion}
use Rattle.std.specs.Int.{to_be_bytes, from_be_bytes, w32, w64}
use Rattle.cc_messages.specs.declared.event.Event.{Event}
use Rattle.cc_wire.specs.Events.{event_spelling, IsEvent}
use Rattle.cc_node.specs.Node.{Node, after, IsLawful}
use Rattle.cc_node_state.specs.Layouts.{IsVersion, layout_of}
use Rattle.cc_node_state.specs.States.{SpellsNode}

-- the gate byte that is open; every other byte is closed
abbrev pub OPEN : ℕ
OPEN = 165

-- how many events a record has at most, and how many bytes behind its length
abbrev pub batch_limit : ℕ
batch_limit = 64

abbrev pub record_limit : ℕ
record_limit = 262144

-- a side is armed where its first byte is an open gate
abbrev pub IsArmed : List ℕ → Type 0
IsArmed bytes = slice_index_or bytes 0 0 ≡ OPEN

-- the generation of an armed side
abbrev pub generation_of : List ℕ → ℕ
generation_of bytes = from_be_bytes w64 (take 8 (drop 1 bytes))

-- an open gate, the generation, the byte of the version, and a state behind its length
pub record SpellsHead (version : ℕ) (bytes : List ℕ) (generation : ℕ) (start : Node) : Type 0 where
  pub state : List ℕ
  pub parts : bytes ≡ OPEN ∷ (to_be_bytes w64 generation ++ version ∷ (to_be_bytes w32 (length state) ++ state))
  pub from_one : 1 ≤ generation
  pub fits : generation < 2 ^ 64
  pub short : length state < 2 ^ 32
  pub spelled : SpellsNode (layout_of version) state start

-- an event behind its size
abbrev pub sized_spelling : Event → List ℕ
sized_spelling e = to_be_bytes w32 (length (event_spelling e)) ++ event_spelling e

-- how many events there are, and the events
abbrev pub events_spelling : List Event → List ℕ
events_spelling events = length events ∷ flat_map sized_spelling events

-- the same behind the length of that
unfoldable pub record_spelling : List Event → List ℕ
record_spelling events = to_be_bytes w32 (length (events_spelling events)) ++ events_spelling events

pub record SpellsRecord (bytes : List ℕ) (events : List Event) : Type 0 where
  pub some : 1 ≤ length events
  pub few : length events ≤ batch_limit
  pub fits : length (events_spelling events) ≤ record_limit
  pub each : AllByRecursion IsEvent events
  pub spelled : bytes ≡ record_spelling events

-- the record of these events, and the closed gate of the next one
pub record SpellsBatch (bytes : List ℕ) (events : List Event) : Type 0 where
  pub record_bytes : List ℕ
  pub gate : ℕ
  pub parts : bytes ≡ record_bytes ++ gate ∷ []
  pub closed : gate ≢ OPEN
  pub spelled : SpellsRecord record_bytes events

-- the batches' records, each behind an open gate
abbrev pub SpellsRecords : List ℕ → List (List Event) → Type 0
SpellsRecords bytes [] = bytes ≡ []
SpellsRecords bytes (batch ∷ batches) =
    (body : List ℕ) × (rest : List ℕ) × (bytes ≡ OPEN ∷ (body ++ rest)) × SpellsRecord body batch × SpellsRecords rest batches

-- the events of these batches
abbrev pub events_of : List (List Event) → List Event
events_of batches = flat_map (λ batch. batch) batches

-- a head and records, which lead to the node
pub record IsFront (bytes : List ℕ) (generation : ℕ) (node : Node) : Type 0 where
  pub start : Node
  pub batches : List (List Event)
  pub head : List ℕ
  pub records : List ℕ
  pub version : ℕ
  pub parts : bytes ≡ head ++ records
  pub known : IsVersion version
  pub head_spelled : SpellsHead version head generation start
  pub records_spelled : SpellsRecords records batches
  pub lawful : IsLawful start (events_of batches)
  pub leads_to : node ≡ after start (events_of batches)

-- the side holds the node under this generation; its records end before the closed gate at `place`, and what is behind
-- that has no meaning
pub record Holds (bytes : List ℕ) (generation : ℕ) (node : Node) (place : ℕ) : Type 0 where
  pub front : List ℕ
  pub gate : ℕ
  pub rest : List ℕ
  pub parts : bytes ≡ front ++ gate ∷ rest
  pub closed : gate ≢ OPEN
  pub at_place : length front ≡ place
  pub is_front : IsFront front generation node

-- the side isn't armed, or has a lower generation
abbrev pub Yields : List ℕ → ℕ → Type 0
Yields bytes generation = (¬ IsArmed bytes) ⊎ ((9 ≤ length bytes) × (1 ≤ generation_of bytes) × (generation_of bytes < generation))

-- the first holds the node under this generation, and the other yields to it
pub record StandsAt (bytes others : List ℕ) (generation place : ℕ) (node : Node) : Type 0 where
  pub holds : Holds bytes generation node place
  pub yields : Yields others generation

pub record StandsIn (bytes others : List ℕ) (node : Node) : Type 0 where
  pub generation : ℕ
  pub place : ℕ
  pub at : StandsAt bytes others generation place node

-- the contents of two sides stand for the node
abbrev pub Stands : List ℕ → List ℕ → Node → Type 0
Stands a b node = StandsIn a b node ⊎ StandsIn b a node

-- these bytes stand right behind the gate at `place`
pub record StandsBehind (bytes : List ℕ) (place : ℕ) (written : List ℕ) : Type 0 where
  pub rest : List ℕ
  pub parts : drop (place + 1) bytes ≡ written ++ rest
