-- What stands at the gates of a side: records, each behind an open gate, up to a closed one.
--     ScansTo             they are there, and lead from one node to another
--     StopsAt             some are there, and what stands at this place is no gate, or no record that the node takes
use Rattle.std.specs.Prelude.{◌≡◌, ◌≢◌, ◌⊎◌, ℕ, ◌+◌, List, [], ◌∷◌, ◌++◌, length}
use Rattle.cc_messages.specs.declared.event.Event.{Event}
use Rattle.cc_node.specs.Node.{Node, after, IsLawful}
use Rattle.cc_node_state.specs.Sides.{OPEN, SpellsRecord, SpellsRecords, events_of}

-- Records of lawful events, so many bytes of them with their gates, so many records and so many events, and behind them a
-- closed gate.
pub record ScansTo (bytes : List ℕ) (start node : Node) (size records events : ℕ) : Type 0 where
  pub front : List ℕ
  pub gate : ℕ
  pub rest : List ℕ
  pub batches : List (List Event)
  pub parts : bytes ≡ front ++ gate ∷ rest
  pub closed : gate ≢ OPEN
  pub at_size : length front ≡ size
  pub spelled : SpellsRecords front batches
  pub lawful : IsLawful start (events_of batches)
  pub leads_to : node ≡ after start (events_of batches)
  pub record_count : records ≡ length batches
  pub event_count : events ≡ length (events_of batches)

-- no record of events that the node takes begins these bytes
abbrev pub NoRecord : List ℕ → Node → Type 0
NoRecord bytes node = (body rest : List ℕ) (events : List Event) → bytes ≡ body ++ rest → SpellsRecord body events → IsLawful node events → ⊥

-- Records of lawful events, and then the end, or behind an open gate no record that the node takes. The place is that of
-- the missing gate, or the one behind the open gate.
pub record StopsAt (bytes : List ℕ) (start : Node) (place : ℕ) : Type 0 where
  pub front : List ℕ
  pub rest : List ℕ
  pub batches : List (List Event)
  pub parts : bytes ≡ front ++ rest
  pub spelled : SpellsRecords front batches
  pub lawful : IsLawful start (events_of batches)
  pub stop : ((rest ≡ []) × (place ≡ length front))
      ⊎ ((behind : List ℕ) × (rest ≡ OPEN ∷ behind) × (place ≡ length front + 1) × NoRecord behind (after start (events_of batches)))
