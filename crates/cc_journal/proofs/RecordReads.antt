-- A record is its length and the events behind it.
use Rattle.std.proofs.Common.{◌≡◌, ℕ, ◌+◌, ◌≤◌, List, [], ◌∷◌, ◌++◌, length, take, refl, sym, ◌∙◌, ap, arith, length-append}
use Rattle.std.specs.Int.{to_be_bytes, w32}
use Rattle.std.specs.List.{flat_map}
use Rattle.std.proofs.lemmas.List.{take_at}
use Rattle.cc_messages.specs.declared.event.Event.{Event}
use Rattle.cc_node.specs.Node.{Node}
use Rattle.cc_node_state.specs.Sides.{sized_spelling, events_spelling, record_spelling, SpellsRecord}
use Rattle.cc_journal.specs.Scans.{NoRecord}
use Rattle.cc_journal.specs.EventReads.{BytesLead, LeadNowhere, RecordLeads, BodyStands, NoBody, IfDamaged}
use Rattle.cc_journal.specs.declared.record_scan.ScanFault.{ScanFault}
use Rattle.cc_journal.specs.declared.record_scan.ScanFault.TheVariants.{Damaged}
use Rattle.cc_journal.proofs.EventReadLaws.{size_of}
use Rattle.cc_journal.proofs.Records.{length_sized}

pub damaged_weaker : (P Q : ℕ → Type 0) (fault : ScanFault) → ((place : ℕ) → P place → Q place) → IfDamaged P fault → IfDamaged Q fault
damaged_weaker P Q (Damaged place) to is = to place is
damaged_weaker P Q fault to is = tt

-- the events of a record stand behind its length
spelled_body : (bytes rest body : List ℕ) (events : List Event) → bytes ≡ body ++ rest → SpellsRecord body events → BodyStands bytes (events_spelling events)
unfolding record_spelling
spelled_body bytes rest body events parts spelled =
    record { rest = rest; fits = spelled.fits; parts = parts ∙ ap (λ (l : List ℕ). l ++ rest) spelled.spelled }

pub no_body_no_record : (bytes : List ℕ) (node : Node) → NoBody bytes → NoRecord bytes node
no_body_no_record bytes node none body rest events parts spelled lawful = none (events_spelling events) (spelled_body bytes rest body events parts spelled)

-- there is one body
one_body : (bytes a b : List ℕ) → BodyStands bytes a → BodyStands bytes b → a ≡ b
one_body bytes a b p q =
    let x = size_of bytes (take 4 bytes) _ refl refl a p.rest (omega (arith, p.fits)) p.parts in
    let y = size_of bytes (take 4 bytes) _ refl refl b q.rest (omega (arith, q.fits)) q.parts in
    sym (take_at a p.rest (length a) refl) ∙ ap (λ (l : List ℕ). take (length a) l) (sym x.1 ∙ y.1) ∙ take_at b q.rest (length a) (sym y.0 ∙ x.0)

pub nowhere_no_record : (bytes body : List ℕ) (node : Node) → BodyStands bytes body → LeadNowhere body node → NoRecord bytes node
nowhere_no_record bytes body node stands nowhere front rest events parts spelled lawful =
    nowhere events (record {
      some = spelled.some;
      few = spelled.few;
      each = spelled.each;
      spelled = one_body bytes body (events_spelling events) stands (spelled_body bytes rest front events parts spelled);
    }) lawful

pub record_leads : (bytes body : List ℕ) (start node : Node) (count : ℕ) → BodyStands bytes body → BytesLead body start node count
    → RecordLeads bytes start node (4 + length body) count
unfolding record_spelling
record_leads bytes body start node count stands lead = record {
  body = to_be_bytes w32 (length body) ++ body;
  rest = stands.rest;
  events = lead.events;
  parts = stands.parts;
  at_size = length-append (to_be_bytes w32 (length body)) body;
  spelled = record {
    some = lead.spelled.some;
    few = lead.spelled.few;
    fits = omega (arith, stands.fits, ap length lead.spelled.spelled);
    each = lead.spelled.each;
    spelled = ap (λ (l : List ℕ). to_be_bytes w32 (length l) ++ l) lead.spelled.spelled;
  };
  leads = lead.leads;
}

-- there are fewer events than bytes
many_bytes : (events : List Event) → length events ≤ length (flat_map sized_spelling events)
many_bytes [] = omega arith
many_bytes (e ∷ events) = omega (arith, many_bytes events, length-append (sized_spelling e) (flat_map sized_spelling events), length_sized e)

pub few_events : (body : List ℕ) (start node : Node) (count : ℕ) → BytesLead body start node count → count ≤ 4 + length body
few_events body start node count lead = omega (arith, lead.leads.event_count, many_bytes lead.events, ap length lead.spelled.spelled)
