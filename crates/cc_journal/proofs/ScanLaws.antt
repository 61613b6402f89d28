-- Bytes are scanned in one way.
--     found_once, stopped_once     what is found is one, and so is where it stops
--     either_one, neither_one      not both;  and one of the two
use Rattle.std.proofs.Common.{◌≡◌, inl, inr, ℕ, zero, suc, ◌+◌, ◌≤◌, eqb, List, [], ◌∷◌, ◌++◌, length, drop, get_or, refl, sym, ◌∙◌, ap}
use Rattle.std.proofs.Common.{arith, length-drop}
use Rattle.std.proofs.lemmas.Bool.{cases_Bool, eqb-true, eqb-false}
use Rattle.cc_messages.specs.declared.event.Event.{Event}
use Rattle.cc_node.specs.Node.{Node, after}
use Rattle.cc_node_state.specs.Sides.{OPEN, events_of}
use Rattle.cc_node_state.specs.RecordLaws.{Ends, one_front}
use Rattle.cc_journal.specs.Scans.{ScansTo, StopsAt, NoRecord}
use Rattle.cc_journal.proofs.Scans.{Stop, SoFar, none_so_far, one_more, scanned, ended, stopped}

no_gate : (x : ℕ) (l : List ℕ) → [] ≡ x ∷ l → ⊥
no_gate x l e = absurd cc

-- a closed gate ends records, and so do the end, and an open gate behind which no record stands
gate_ends : {bytes : List ℕ} {start node : Node} {size records events : ℕ} (p : ScansTo bytes start node size records events)
    → Ends (p.gate ∷ p.rest) (after start (events_of p.batches))
gate_ends p body more events is spelled lawful = p.closed (ap (λ (l : List ℕ). get_or l 0 0) is)

stop_ends : {bytes : List ℕ} {start : Node} {place : ℕ} (p : StopsAt bytes start place) → Ends p.rest (after start (events_of p.batches))
stop_ends p body more events is spelled lawful = elim p.stop [
  | inl none ↦ no_gate OPEN (body ++ more) (sym none.0 ∙ is)
  | inr stop ↦ stop.3 body more events (ap (λ (l : List ℕ). drop 1 l) (sym stop.1 ∙ is)) spelled lawful
]

pub found_once : (bytes : List ℕ) (start x y : Node) (size-x size-y records-x records-y events-x events-y : ℕ)
    → ScansTo bytes start x size-x records-x events-x → ScansTo bytes start y size-y records-y events-y
    → (x ≡ y) × (size-x ≡ size-y) × (records-x ≡ records-y) × (events-x ≡ events-y)
found_once bytes start x y size-x size-y records-x records-y events-x events-y p q =
    let one = one_front start p.batches q.batches p.front q.front (p.gate ∷ p.rest) (q.gate ∷ q.rest) p.spelled q.spelled p.lawful q.lawful
    (gate_ends p) (gate_ends q) (sym p.parts ∙ q.parts) in (
      p.leads_to ∙ ap (λ (l : List (List Event)). after start (events_of l)) one.0 ∙ sym q.leads_to,
      sym p.at_size ∙ ap length one.1 ∙ q.at_size,
      p.record_count ∙ ap length one.0 ∙ sym q.record_count,
      p.event_count ∙ ap (λ (l : List (List Event)). length (events_of l)) one.0 ∙ sym q.event_count,
    )

one_stop : (a b u w : List ℕ) (n m : Node) (place-x place-y : ℕ) → a ≡ b → u ≡ w → Stop a u n place-x → Stop b w m place-y → place-x ≡ place-y
one_stop a b u w n m place-x place-y same rest (inl p) (inl q) = p.1 ∙ ap length same ∙ sym q.1
one_stop a b u w n m place-x place-y same rest (inl p) (inr q) = absurd (no_gate OPEN q.0 (sym p.0 ∙ rest ∙ q.1))
one_stop a b u w n m place-x place-y same rest (inr p) (inl q) = absurd (no_gate OPEN p.0 (sym q.0 ∙ sym rest ∙ p.1))
one_stop a b u w n m place-x place-y same rest (inr p) (inr q) = p.2 ∙ ap (λ (l : List ℕ). length l + 1) same ∙ sym q.2

pub stopped_once : (bytes : List ℕ) (start : Node) (place-x place-y : ℕ) → StopsAt bytes start place-x → StopsAt bytes start place-y → place-x ≡ place-y
stopped_once bytes start place-x place-y p q =
    let one = one_front start p.batches q.batches p.front q.front p.rest q.rest p.spelled q.spelled p.lawful q.lawful
    (stop_ends p) (stop_ends q) (sym p.parts ∙ q.parts) in
    one_stop p.front q.front p.rest q.rest _ _ place-x place-y one.1 one.2 p.stop q.stop

pub either_one : (bytes : List ℕ) (start node : Node) (size records events place : ℕ) → ScansTo bytes start node size records events
    → StopsAt bytes start place → ⊥
either_one bytes start node size records events place p q =
    let one = one_front start p.batches q.batches p.front q.front (p.gate ∷ p.rest) q.rest p.spelled q.spelled p.lawful q.lawful
    (gate_ends p) (stop_ends q) (sym p.parts ∙ q.parts) in
    elim q.stop [
      | inl none ↦ no_gate p.gate p.rest (sym (one.2 ∙ none.0))
      | inr opened ↦ p.closed (ap (λ (l : List ℕ). get_or l 0 0) (one.2 ∙ opened.1))
    ]

-- Where bytes neither lead to a node nor stop, they would go on for ever, from open gate to open gate.
module _ (bytes : List ℕ) (start : Node) (no_scan : (node : Node) (size records events : ℕ) → ScansTo bytes start node size records events → ⊥)
    (no_stop : (place : ℕ) → StopsAt bytes start place → ⊥) where
  at_gate : (node : Node) (size records events : ℕ) → SoFar bytes start node size records events
      → ((behind : List ℕ) → drop size bytes ≡ OPEN ∷ behind → NoRecord behind node) → (rest : List ℕ) → drop size bytes ≡ rest → ⊥
  at_gate node size records events so_far none [] is = no_stop size (ended so_far is)
  at_gate node size records events so_far none (gate ∷ rest) is = elim (cases_Bool (eqb gate OPEN)) [
    | inl opened ↦
        let open_gate : drop size bytes ≡ OPEN ∷ rest = is ∙ ap (λ (g : ℕ). g ∷ rest) (eqb-true _ _ opened) in
        no_stop (size + 1) (stopped so_far rest open_gate (none rest open_gate))
    | inr shut ↦ no_scan node size records events (scanned so_far gate rest is (eqb-false _ _ shut))
  ]

  from_gate : (fuel : ℕ) (node : Node) (size records events : ℕ) → SoFar bytes start node size records events → length bytes ≤ fuel + size → ⊥
  from_gate zero node size records events so_far enough = at_gate node size records events so_far
      (λ behind opened. absurd (omega (arith, ap length opened, length-drop size bytes))) (drop size bytes) refl
  from_gate (suc fuel) node size records events so_far enough = at_gate node size records events so_far
      (λ behind opened body rest batch is spelled lawful.
      from_gate fuel (after node batch) (size + (1 + length body)) (records + 1) (events + length batch)
      (one_more so_far behind (after node batch) (length body) (length batch) opened (record {
        body = body;
        rest = rest;
        events = batch;
        parts = is;
        at_size = refl;
        spelled = spelled;
        leads = record { lawful = lawful; leads_to = refl; event_count = refl };
      })) (omega arith)) (drop size bytes) refl

  pub neither_one : ⊥
  neither_one = from_gate (length bytes) start 0 0 0 (none_so_far bytes start) (omega arith)
