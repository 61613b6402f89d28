-- What the bytes of a side hold after a change behind its closed gate, at that gate, or at its first byte.
--     records_push, events_push, front_more          one record more
--     holds_within, holds_kept                       the closed gate is within, and what is behind it has no meaning
--     holds_closed, holds_opened                     another closed byte at the gate;  an open one, over a record
--     one_byte, generation_held, held_armed          a content that differs in one byte;  the first nine bytes
use Rattle.std.proofs.Common.{◌≡◌, ◌≢◌, ℕ, ◌+◌, ◌≤◌, List, [], ◌∷◌, ◌++◌, length, take, drop, set, slice_index, refl, sym, ◌∙◌, ap, subst, arith}
use Rattle.std.proofs.Common.{length-append, take-append-drop, get_or}
use Rattle.std.specs.Int.{to_be_bytes, from_be_bytes, w32, w64}
use Rattle.std.proofs.lemmas.Nat.{from_be_bytes-to_be_bytes_8}
use Rattle.std.proofs.lemmas.List.{append_assoc, append-nil, take_at, drop_at, set_at, set-set, set-get_or}
use Rattle.cc_messages.specs.declared.event.Event.{Event}
use Rattle.cc_node.specs.Node.{Node, after, IsLawful}
use Rattle.cc_node_state.specs.Sides.{OPEN, IsArmed, generation_of, SpellsRecord, SpellsRecords, SpellsBatch, StandsBehind, events_of, IsFront, Holds}
use Rattle.cc_node.specs.Histories.{after-append, IsLawful-append}

-- one batch more
pub records_push : (bytes : List ℕ) (batches : List (List Event)) (body : List ℕ) (batch : List Event) → SpellsRecords bytes batches → SpellsRecord body batch
    → SpellsRecords (bytes ++ OPEN ∷ body) (batches ++ batch ∷ [])
records_push bytes [] body batch none spelled =
    (body, [], ap (λ (l : List ℕ). l ++ OPEN ∷ body) none ∙ ap (λ (l : List ℕ). OPEN ∷ l) (sym (append-nil body)), spelled, refl)
records_push bytes (first ∷ batches) body batch some spelled = (
  some.0,
  some.1 ++ OPEN ∷ body,
  ap (λ (l : List ℕ). l ++ OPEN ∷ body) some.2 ∙ ap (λ (l : List ℕ). OPEN ∷ l) (append_assoc some.0 some.1 (OPEN ∷ body)),
  some.3,
  records_push some.1 batches body batch some.4 spelled,
)

pub events_push : (batches : List (List Event)) (batch : List Event) → events_of (batches ++ batch ∷ []) ≡ events_of batches ++ batch
events_push [] batch = append-nil batch
events_push (first ∷ batches) batch =
    ap (λ (l : List Event). first ++ l) (events_push batches batch) ∙ sym (append_assoc first (events_of batches) batch)

-- one record more, behind an open gate
pub front_more : (bytes : List ℕ) (generation : ℕ) (node : Node) (body : List ℕ) (events : List Event) → IsFront bytes generation node
    → SpellsRecord body events → IsLawful node events
    → IsFront (bytes ++ OPEN ∷ body) generation (after node events)
front_more bytes generation node body events front spelled lawful = record {
  start = front.start;
  batches = front.batches ++ events ∷ [];
  head = front.head;
  records = front.records ++ OPEN ∷ body;
  version = front.version;
  known = front.known;
  parts = ap (λ (l : List ℕ). l ++ OPEN ∷ body) front.parts ∙ append_assoc front.head front.records (OPEN ∷ body);
  head_spelled = front.head_spelled;
  records_spelled = records_push front.records front.batches body events front.records_spelled spelled;
  lawful = subst (λ (l : List Event). IsLawful front.start l) (sym (events_push front.batches events))
      (IsLawful-append front.start (events_of front.batches) events front.lawful (subst (λ (n : Node). IsLawful n events) front.leads_to lawful));
  leads_to = ap (λ (n : Node). after n events) front.leads_to ∙ sym (after-append front.start (events_of front.batches) events)
      ∙ ap (λ (l : List Event). after front.start l) (sym (events_push front.batches events));
}

module _ (bytes : List ℕ) (generation : ℕ) (node : Node) (place : ℕ) (holds : Holds bytes generation node place) where
  split : bytes ≡ (holds.front ++ holds.gate ∷ []) ++ holds.rest
  split = holds.parts ∙ sym (append_assoc holds.front (holds.gate ∷ []) holds.rest)

  split_length : length (holds.front ++ holds.gate ∷ []) ≡ place + 1
  split_length = length-append holds.front (holds.gate ∷ []) ∙ ap (λ (n : ℕ). n + 1) holds.at_place

  -- the closed gate is within
  pub holds_within : place + 1 ≤ length bytes
  holds_within = omega (arith, ap length split, length-append (holds.front ++ holds.gate ∷ []) holds.rest, split_length)

  holds_to : take (place + 1) bytes ≡ holds.front ++ holds.gate ∷ []
  holds_to = ap (λ (l : List ℕ). take (place + 1) l) split ∙ take_at (holds.front ++ holds.gate ∷ []) holds.rest (place + 1) split_length

  -- what is behind the closed gate has no meaning
  pub holds_kept : (c : List ℕ) → take (place + 1) c ≡ take (place + 1) bytes → Holds c generation node place
  holds_kept c same = record {
    front = holds.front;
    gate = holds.gate;
    rest = drop (place + 1) c;
    parts = sym (take-append-drop (place + 1) c) ∙ ap (λ (l : List ℕ). l ++ drop (place + 1) c) (same ∙ holds_to)
        ∙ append_assoc holds.front (holds.gate ∷ []) (drop (place + 1) c);
    closed = holds.closed;
    at_place = holds.at_place;
    is_front = holds.is_front;
  }

  -- another byte at the gate
  regated : (gate : ℕ) → set bytes place gate ≡ holds.front ++ gate ∷ holds.rest
  regated gate = ap (λ (l : List ℕ). set l place gate) holds.parts ∙ set_at holds.front holds.gate holds.rest gate place holds.at_place

  pub holds_closed : (gate : ℕ) → gate ≢ OPEN → Holds (set bytes place gate) generation node place
  holds_closed gate closed = record {
    front = holds.front;
    gate = gate;
    rest = holds.rest;
    parts = regated gate;
    closed = closed;
    at_place = holds.at_place;
    is_front = holds.is_front;
  }

  behind : drop (place + 1) bytes ≡ holds.rest
  behind = ap (λ (l : List ℕ). drop (place + 1) l) split ∙ drop_at (holds.front ++ holds.gate ∷ []) holds.rest (place + 1) split_length

  -- an open one lets the record behind it count
  pub holds_opened : (written : List ℕ) (events : List Event) → SpellsBatch written events → StandsBehind bytes place written → IsLawful node events
      → Holds (set bytes place OPEN) generation (after node events) (place + length written)
  holds_opened written events batch standing lawful = record {
    front = holds.front ++ OPEN ∷ batch.record_bytes;
    gate = batch.gate;
    rest = standing.rest;
    parts = regated OPEN
        ∙ ap (λ (l : List ℕ). holds.front ++ OPEN ∷ l) (sym behind ∙ standing.parts ∙ ap (λ (l : List ℕ). l ++ standing.rest) batch.parts
        ∙ append_assoc batch.record_bytes (batch.gate ∷ []) standing.rest)
        ∙ sym (append_assoc holds.front (OPEN ∷ batch.record_bytes) (batch.gate ∷ standing.rest));
    closed = batch.closed;
    at_place = length-append holds.front (OPEN ∷ batch.record_bytes) ∙ omega
        (arith, holds.at_place, ap length batch.parts, length-append batch.record_bytes (batch.gate ∷ []));
    is_front = front_more holds.front generation node batch.record_bytes events holds.is_front batch.spelled lawful;
  }

-- a content that differs in one byte
pub one_byte : (bytes c : List ℕ) (place : ℕ) → set c place (slice_index bytes place) ≡ bytes → c ≡ set bytes place (slice_index c place)
one_byte bytes c place same =
    sym (set-get_or c place 0) ∙ sym (set-set c place (slice_index bytes place) (slice_index c place))
    ∙ ap (λ (l : List ℕ). set l place (slice_index c place)) same

-- the generation of a side that holds a node
pub generation_held : (bytes : List ℕ) (generation : ℕ) (node : Node) (place : ℕ) → Holds bytes generation node place
    → (9 ≤ length bytes) × (1 ≤ generation) × (generation_of bytes ≡ generation)
generation_held bytes generation node place holds =
    let front = holds.is_front in
    let head = front.head_spelled in
    let number = to_be_bytes w64 generation in
    let tail = front.version ∷ (to_be_bytes w32 (length head.state) ++ head.state) in
    let all : bytes ≡ OPEN ∷ (number ++ (tail ++ (front.records ++ holds.gate ∷ holds.rest))) =
    holds.parts
    ∙ ap (λ (l : List ℕ). l ++ holds.gate ∷ holds.rest) (front.parts ∙ ap (λ (l : List ℕ). l ++ front.records) head.parts)
    ∙ ap (λ (l : List ℕ). OPEN ∷ l) (append_assoc (number ++ tail) front.records (holds.gate ∷ holds.rest)
    ∙ append_assoc number tail (front.records ++ holds.gate ∷ holds.rest)) in
    let eight : length number ≡ 8 = refl in (
      omega (arith, ap length all, length-append number (tail ++ (front.records ++ holds.gate ∷ holds.rest)), eight),
      head.from_one,
      ap (λ (l : List ℕ). generation_of l) all
          ∙ ap (λ (l : List ℕ). from_be_bytes w64 l) (take_at number (tail ++ (front.records ++ holds.gate ∷ holds.rest)) 8 eight)
          ∙ from_be_bytes-to_be_bytes_8 generation head.fits,
    )

-- a side that holds a node is armed
pub held_armed : (bytes : List ℕ) (generation : ℕ) (node : Node) (place : ℕ) → Holds bytes generation node place → IsArmed bytes
held_armed bytes generation node place holds =
    let front = holds.is_front in
    let head = front.head_spelled in
    let rest = to_be_bytes w64 generation ++ front.version ∷ (to_be_bytes w32 (length head.state) ++ head.state) in
    let all : bytes ≡ ((OPEN ∷ rest) ++ front.records) ++ holds.gate ∷ holds.rest =
    holds.parts ∙ ap (λ (l : List ℕ). l ++ holds.gate ∷ holds.rest) (front.parts ∙ ap (λ (l : List ℕ). l ++ front.records) head.parts) in
    ap (λ (l : List ℕ). get_or l 0 0) all
