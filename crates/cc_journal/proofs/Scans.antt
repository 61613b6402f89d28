-- A scan goes on from record to record.
--     SoFar, none_so_far                       the records that begin some bytes;  none of them
--     one_more, scanned, ended, stopped        one record more;  a closed gate behind them;  the end;  an open gate and no record
--     LeadsOn                                  the records from one place of a side to another
--     goes_on, ends_shut, stops_behind, stops_past     the same four of them
use Rattle.std.proofs.Common.{◌≡◌, ◌≢◌, ◌⊎◌, inl, inr, ℕ, ◌+◌, ◌-◌, ◌≤◌, List, [], ◌∷◌, ◌++◌, length, drop, refl, sym, ◌∙◌, ap, subst, arith, length-append}
use Rattle.std.proofs.lemmas.List.{append_assoc, drop_at, drop-drop, drop_all}
use Rattle.cc_messages.specs.declared.event.Event.{Event}
use Rattle.cc_node.specs.Node.{Node, after, IsLawful}
use Rattle.cc_node.specs.Histories.{after-append, IsLawful-append}
use Rattle.cc_node_state.specs.Sides.{OPEN, SpellsRecords, events_of}
use Rattle.cc_node_state.specs.Fronts.{records_push, events_push}
use Rattle.cc_journal.specs.Scans.{ScansTo, StopsAt, NoRecord}
use Rattle.cc_journal.specs.EventReads.{RecordLeads, BeginsOpen, BeginsClosed, IsStopped}

-- the place of a stop behind records: the end, or an open gate behind which no record stands
abbrev pub Stop : (front rest : List ℕ) (node : Node) (place : ℕ) → Type 0
Stop front rest node place =
    ((rest ≡ []) × (place ≡ length front)) ⊎ ((behind : List ℕ) × (rest ≡ OPEN ∷ behind) × (place ≡ length front + 1) × NoRecord behind node)

-- records of lawful events begin the bytes: so many bytes with their gates, so many records and events
pub record SoFar (bytes : List ℕ) (start node : Node) (size records events : ℕ) : Type 0 where
  pub front : List ℕ
  pub rest : List ℕ
  pub batches : List (List Event)
  pub parts : bytes ≡ front ++ rest
  pub at_size : length front ≡ size
  pub spelled : SpellsRecords front batches
  pub lawful : IsLawful start (events_of batches)
  pub leads_to : node ≡ after start (events_of batches)
  pub record_count : records ≡ length batches
  pub event_count : events ≡ length (events_of batches)

pub none_so_far : (bytes : List ℕ) (start : Node) → SoFar bytes start start 0 0 0
none_so_far bytes start = record {
  front = [];
  rest = bytes;
  batches = [];
  parts = refl;
  at_size = refl;
  spelled = refl;
  lawful = tt;
  leads_to = refl;
  record_count = refl;
  event_count = refl;
}

module _ {bytes : List ℕ} {start node : Node} {size records events : ℕ} (so_far : SoFar bytes start node size records events) where
  rest_is : drop size bytes ≡ so_far.rest
  rest_is = ap (λ (l : List ℕ). drop size l) so_far.parts ∙ drop_at so_far.front so_far.rest size so_far.at_size

  -- one record more
  pub one_more : (behind : List ℕ) (next : Node) (more count : ℕ) → drop size bytes ≡ OPEN ∷ behind → RecordLeads behind node next more count
      → SoFar bytes start next (size + (1 + more)) (records + 1) (events + count)
  one_more behind next more count opened leads =
      let batch = leads.events in
      let pushed : events_of (so_far.batches ++ batch ∷ []) ≡ events_of so_far.batches ++ batch = events_push so_far.batches batch in
      record {
        front = so_far.front ++ OPEN ∷ leads.body;
        rest = leads.rest;
        batches = so_far.batches ++ batch ∷ [];
        parts = so_far.parts ∙ ap (λ (l : List ℕ). so_far.front ++ l) (sym rest_is ∙ opened ∙ ap (λ (l : List ℕ). OPEN ∷ l) leads.parts)
            ∙ sym (append_assoc so_far.front (OPEN ∷ leads.body) leads.rest);
        at_size = omega (arith, length-append so_far.front (OPEN ∷ leads.body));
        spelled = records_push so_far.front so_far.batches leads.body batch so_far.spelled leads.spelled;
        lawful = subst (λ (l : List Event). IsLawful start l) (sym pushed) (IsLawful-append start (events_of so_far.batches) batch so_far.lawful
            (subst (λ (n : Node). IsLawful n batch) so_far.leads_to leads.leads.lawful));
        leads_to = leads.leads.leads_to ∙ ap (λ (n : Node). after n batch) so_far.leads_to
            ∙ sym (ap (λ (l : List Event). after start l) pushed ∙ after-append start (events_of so_far.batches) batch);
        record_count = omega (arith, length-append so_far.batches (batch ∷ []));
        event_count = omega (arith, ap length pushed, length-append (events_of so_far.batches) batch);
      }

  -- a closed gate
  pub scanned : (gate : ℕ) (rest : List ℕ) → drop size bytes ≡ gate ∷ rest → gate ≢ OPEN → ScansTo bytes start node size records events
  scanned gate rest shut closed = record {
    front = so_far.front;
    gate = gate;
    rest = rest;
    batches = so_far.batches;
    parts = so_far.parts ∙ ap (λ (l : List ℕ). so_far.front ++ l) (sym rest_is ∙ shut);
    closed = closed;
    at_size = so_far.at_size;
    spelled = so_far.spelled;
    lawful = so_far.lawful;
    leads_to = so_far.leads_to;
    record_count = so_far.record_count;
    event_count = so_far.event_count;
  }

  stops : (place : ℕ) → Stop so_far.front so_far.rest (after start (events_of so_far.batches)) place → StopsAt bytes start place
  stops place stop =
      let p = so_far in
      record { front = p.front; rest = p.rest; batches = p.batches; parts = p.parts; spelled = p.spelled; lawful = p.lawful; stop = stop }

  -- the end
  pub ended : drop size bytes ≡ [] → StopsAt bytes start size
  ended none = stops size (inl (sym rest_is ∙ none, sym so_far.at_size))

  -- an open gate, and no record
  pub stopped : (behind : List ℕ) → drop size bytes ≡ OPEN ∷ behind → NoRecord behind node → StopsAt bytes start (size + 1)
  stopped behind opened none = stops (size + 1)
      (inr (behind, sym rest_is ∙ opened, ap (λ (n : ℕ). n + 1) (sym so_far.at_size), subst (λ (n : Node). NoRecord behind n) so_far.leads_to none))

-- ---- places of the side

-- behind a place, as behind an earlier one
from_earlier : (bytes : List ℕ) (start place : ℕ) → start ≤ place → drop (place - start) (drop start bytes) ≡ drop place bytes
from_earlier bytes start place le = drop-drop (place - start) start bytes ∙ ap (λ (n : ℕ). drop n bytes) (omega arith)

-- the records from one place on lead to a node at another
pub record LeadsOn (bytes : List ℕ) (from place : ℕ) (start node : Node) (records events : ℕ) : Type 0 where
  pub onward : from ≤ place
  pub so_far : SoFar (drop from bytes) start node (place - from) records events

module _ {bytes : List ℕ} {from place : ℕ} {start node : Node} {records events : ℕ} (on : LeadsOn bytes from place start node records events) where
  here : drop (place - from) (drop from bytes) ≡ drop place bytes
  here = from_earlier bytes from place on.onward

  pub goes_on : (next : Node) (more count : ℕ) → BeginsOpen (drop place bytes) → RecordLeads (drop (place + 1) bytes) node next more count
      → LeadsOn bytes from (place + (1 + more)) start next (records + 1) (events + count)
  goes_on next more count opened leads = record {
    onward = omega (arith, on.onward);
    so_far = subst (λ (n : ℕ). SoFar (drop from bytes) start next n (records + 1) (events + count)) (omega (arith, on.onward))
        (one_more on.so_far (drop 1 (drop place bytes)) next more count (here ∙ opened)
        (subst (λ (l : List ℕ). RecordLeads l node next more count) (sym (drop-drop 1 place bytes)) leads));
  }

  pub ends_shut : BeginsClosed (drop place bytes) → ScansTo (drop from bytes) start node (place - from) records events
  ends_shut shut = scanned on.so_far shut.0 (drop 1 (drop place bytes)) (here ∙ shut.1) shut.2

  pub stops_behind : BeginsOpen (drop place bytes) → NoRecord (drop (place + 1) bytes) node → IsStopped bytes from start (place + 1)
  stops_behind opened none = record {
    onward = omega (arith, on.onward);
    stops = subst (λ (n : ℕ). StopsAt (drop from bytes) start n) (omega (arith, on.onward)) (stopped on.so_far (drop 1 (drop place bytes))
        (here ∙ opened) (subst (λ (l : List ℕ). NoRecord l node) (sym (drop-drop 1 place bytes)) none));
  }

  pub stops_past : length bytes ≤ place → IsStopped bytes from start place
  stops_past past = record { onward = on.onward; stops = ended on.so_far (here ∙ drop_all place bytes past) }
