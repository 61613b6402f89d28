-- How a record is read.
--     SpellsEvents            what stands behind a record's length, where it is of these events
--     BeginsWith, NoEvent     an event behind its size, and what follows it;  no event
--     Leads                   from one node to another by lawful events, so many
--     RecordLeads             the same by the record that begins the bytes
--     BodyStands, NoBody      what a record's length says stands behind it;  nothing does
--     BeginsOpen, BeginsClosed   an open gate, a closed one
--     IsScanned, IsStopped    what a scan found;  where it stopped
--     IfDamaged               what a fault tells by its place
--     CountsScanFault         the count of failures, and the fault that is told
use Rattle.std.specs.Prelude.{◌≡◌, ◌≢◌, ⊤, ℕ, ◌+◌, ◌-◌, ◌≤◌, List, ◌∷◌, ◌++◌, length, drop, Result, MatchResult}
use Rattle.std.specs.Int.{to_be_bytes, w32}
use Rattle.std.specs.List.{AllByRecursion}
use Rattle.cc_messages.specs.declared.event.Event.{Event}
use Rattle.cc_wire.specs.Events.{IsEvent}
use Rattle.cc_node.specs.Node.{Node, after, IsLawful}
use Rattle.cc_node_state.specs.Sides.{OPEN, batch_limit, record_limit, sized_spelling, events_spelling, SpellsRecord}
use Rattle.cc_site.specs.declared.site.Side.{Side}
use Rattle.cc_site.specs.ToldFaults.{LooksAt, Tells}
use Rattle.cc_journal.specs.Scans.{ScansTo, StopsAt}
use Rattle.cc_journal.specs.declared.record_scan.Scanned.{Scanned}
use Rattle.cc_journal.specs.declared.record_scan.ScanFault.{ScanFault}
use Rattle.cc_journal.specs.declared.record_scan.ScanFault.TheVariants.{Damaged, Device, NoMemory}

pub record SpellsEvents (bytes : List ℕ) (events : List Event) : Type 0 where
  pub some : 1 ≤ length events
  pub few : length events ≤ batch_limit
  pub each : AllByRecursion IsEvent events
  pub spelled : bytes ≡ events_spelling events

-- the event behind its size has so many bytes, which begin these
pub record BeginsWith (bytes : List ℕ) (e : Event) (size : ℕ) : Type 0 where
  pub within : size ≤ length bytes
  pub is_event : IsEvent e
  pub parts : bytes ≡ sized_spelling e ++ drop size bytes

abbrev pub NoEvent : List ℕ → Type 0
NoEvent bytes = (e : Event) (rest : List ℕ) → IsEvent e → bytes ≡ sized_spelling e ++ rest → ⊥

-- the events are lawful, and so many
pub record Leads (events : List Event) (start node : Node) (count : ℕ) : Type 0 where
  pub lawful : IsLawful start events
  pub leads_to : node ≡ after start events
  pub event_count : count ≡ length events

-- the bytes spell lawful events
pub record BytesLead (bytes : List ℕ) (start node : Node) (count : ℕ) : Type 0 where
  pub events : List Event
  pub spelled : SpellsEvents bytes events
  pub leads : Leads events start node count

-- they don't
abbrev pub LeadNowhere : List ℕ → Node → Type 0
LeadNowhere bytes start = (events : List Event) → SpellsEvents bytes events → IsLawful start events → ⊥

-- a record of lawful events begins the bytes, of which it has so many
pub record RecordLeads (bytes : List ℕ) (start node : Node) (size count : ℕ) : Type 0 where
  pub body : List ℕ
  pub rest : List ℕ
  pub events : List Event
  pub parts : bytes ≡ body ++ rest
  pub at_size : length body ≡ size
  pub spelled : SpellsRecord body events
  pub leads : Leads events start node count

-- the length of a record, and behind it so many bytes
pub record BodyStands (bytes body : List ℕ) : Type 0 where
  pub rest : List ℕ
  pub fits : length body ≤ record_limit
  pub parts : bytes ≡ to_be_bytes w32 (length body) ++ body ++ rest

abbrev pub NoBody : List ℕ → Type 0
NoBody bytes = (body : List ℕ) → BodyStands bytes body → ⊥

abbrev pub BeginsOpen : List ℕ → Type 0
BeginsOpen bytes = bytes ≡ OPEN ∷ drop 1 bytes

abbrev pub BeginsClosed : List ℕ → Type 0
BeginsClosed bytes = (gate : ℕ) × (bytes ≡ gate ∷ drop 1 bytes) × (gate ≢ OPEN)

-- the records from the gate at `place` on lead to the node, up to a closed gate within the side
pub record IsScanned (bytes : List ℕ) (side : Side) (place : ℕ) (start : Node) (found : Scanned) : Type 0 where
  pub same_side : found.journal.side ≡ side
  pub onward : place ≤ found.journal.place
  pub within : found.journal.place + 1 ≤ length bytes
  pub scans : ScansTo (drop place bytes) start found.node (found.journal.place - place) found.records found.events

-- the records from the gate at `place` on stop at another one
pub record IsStopped (bytes : List ℕ) (place : ℕ) (start : Node) (damaged : ℕ) : Type 0 where
  pub onward : place ≤ damaged
  pub stops : StopsAt (drop place bytes) start (damaged - place)

-- what a fault tells by a place
abbrev pub IfDamaged : (ℕ → Type 0) → ScanFault → Type 0
IfDamaged P (Damaged place) = P place
IfDamaged P (Device fault) = ⊤
IfDamaged P NoMemory = ⊤

-- a device fault names a look at this side, and is answered where the count of failures rose, and only there
abbrev pub ScanFaultRose : Side → ℕ → ℕ → ScanFault → Type 0
ScanFaultRose side before now (Damaged place) = now ≡ before
ScanFaultRose side before now (Device fault) = Tells (LooksAt side) before now fault
ScanFaultRose side before now NoMemory = now ≡ before

abbrev pub CountsScanFault : {T : Type 0} → Side → ℕ → ℕ → Result T ScanFault → Type 0
CountsScanFault side before now result = MatchResult result (λ _. now ≡ before) (ScanFaultRose side before now)
