-- Two sides stand for one node.
use Rattle.std.proofs.Common.{◌≡◌, inl, inr, slice_index, ℕ, ◌+◌, ◌<◌, List, [], ◌∷◌, ◌++◌, length, drop, refl, sym, ◌∙◌, ap, subst, arith, length-append}
use Rattle.std.proofs.lemmas.List.{append_assoc, drop_at}
use Rattle.cc_node.specs.Node.{Node}
use Rattle.cc_node_state.specs.Sides.{IsArmed, generation_of, Holds, Yields, StandsAt, StandsIn, Stands, events_of}
use Rattle.cc_node_state.specs.declared.layout.Layout.{Layout}
use Rattle.cc_node_state.specs.Layouts.{layout_of}
use Rattle.cc_node_state.specs.States.{SpellsNode}
use Rattle.cc_node_state.specs.Fronts.{generation_held, held_armed}
use Rattle.cc_checkpoint.specs.Heads.{HeadAt, state_of}
use Rattle.cc_checkpoint.proofs.HeadLaws.{head_found}
use Rattle.cc_journal.specs.Scans.{ScansTo}

abbrev pub OneState : Type 0
OneState = (layout : Layout) (a b u w : List ℕ) (x y : Node) → SpellsNode layout a x → SpellsNode layout b y → a ++ u ≡ b ++ w → (x ≡ y) × (a ≡ b)

abbrev pub OneScan : Type 0
OneScan = (bytes : List ℕ) (start x y : Node) (size-x size-y records-x records-y events-x events-y : ℕ)
    → ScansTo bytes start x size-x records-x events-x → ScansTo bytes start y size-y records-y events-y
    → (x ≡ y) × (size-x ≡ size-y) × (records-x ≡ records-y) × (events-x ≡ events-y)

-- what a side holds, as it is read
pub record Read (bytes : List ℕ) (node : Node) (place : ℕ) : Type 0 where
  pub start : Node
  pub first : ℕ
  pub size : ℕ
  pub records : ℕ
  pub events : ℕ
  pub head : HeadAt bytes start first
  pub scans : ScansTo (drop first bytes) start node size records events
  pub at_place : place ≡ first + size

pub read : (bytes : List ℕ) (generation : ℕ) (node : Node) (place : ℕ) → Holds bytes generation node place → Read bytes node place
read bytes generation node place holds =
    let front = holds.is_front in
    let rest = front.records ++ holds.gate ∷ holds.rest in
    let all : bytes ≡ front.head ++ rest = holds.parts ∙ ap (λ (l : List ℕ). l ++ holds.gate ∷ holds.rest) front.parts
    ∙ append_assoc front.head front.records (holds.gate ∷ holds.rest) in
    record {
      start = front.start;
      first = length front.head;
      size = length front.records;
      records = length front.batches;
      events = length (events_of front.batches);
      head = subst (λ (l : List ℕ). HeadAt l front.start (length front.head)) (sym all)
          (head_found front.version front.head rest generation front.start front.known front.head_spelled);
      scans = record {
        front = front.records;
        gate = holds.gate;
        rest = holds.rest;
        batches = front.batches;
        parts = ap (λ (l : List ℕ). drop (length front.head) l) all ∙ drop_at front.head rest (length front.head) refl;
        closed = holds.closed;
        at_size = refl;
        spelled = front.records_spelled;
        lawful = front.lawful;
        leads_to = front.leads_to;
        record_count = refl;
        event_count = refl;
      };
      at_place = sym holds.at_place ∙ ap length front.parts ∙ length-append front.head front.records;
    }

module _ (one_state : OneState) (one_scan : OneScan) where
  one_read : (bytes : List ℕ) (n m : Node) (p q : ℕ) → Read bytes n p → Read bytes m q → (p ≡ q) × (n ≡ m)
  one_read bytes n m p q x y =
      let start : y.start ≡ x.start = (one_state (layout_of (slice_index bytes 9)) (state_of bytes)
      (state_of bytes) [] [] y.start x.start y.head.state x.head.state refl).0 in
      let first : y.first ≡ x.first = y.head.is ∙ sym x.head.is in
      let scans = subst (λ (k : ℕ). ScansTo (drop k bytes) x.start m y.size y.records y.events) first
      (subst (λ (s : Node). ScansTo (drop y.first bytes) s m y.size y.records y.events) start y.scans) in
      let one = one_scan (drop x.first bytes) x.start n m x.size y.size x.records y.records x.events y.events x.scans scans in
      (omega (arith, x.at_place, y.at_place, first, one.1), one.0)

  pub one_place : (a b : List ℕ) (g h p q : ℕ) (n m : Node) → StandsAt a b g p n → StandsAt a b h q m → (g ≡ h) × (p ≡ q) × (n ≡ m)
  one_place a b g h p q n m x y =
      let one = one_read a n m p q (read a g n p x.holds) (read a h m q y.holds) in
      (sym (generation_held a g n p x.holds).2 ∙ (generation_held a h m q y.holds).2, one.0, one.1)

  pub one_side : (a b : List ℕ) (n m : Node) → StandsIn a b n → StandsIn b a m → ⊥
  one_side a b n m x y =
      let armed_a = held_armed a x.generation n x.place x.at.holds in
      let armed_b = held_armed b y.generation m y.place y.at.holds in
      let number_a = generation_held a x.generation n x.place x.at.holds in
      let number_b = generation_held b y.generation m y.place y.at.holds in
      let below : y.generation < x.generation = lower b x.generation y.generation armed_b number_b.2 x.at.yields in
      let above : x.generation < y.generation = lower a y.generation x.generation armed_a number_a.2 y.at.yields in
      absurd (omega (arith, below, above))
    where
      lower : (bytes : List ℕ) (most generation : ℕ) → IsArmed bytes → generation_of bytes ≡ generation → Yields bytes most → generation < most
      lower bytes most generation armed is (inl unarmed) = absurd (unarmed armed)
      lower bytes most generation armed is (inr less) = omega (arith, is, less.2)

  pub one_node : (a b : List ℕ) (n m : Node) → Stands a b n → Stands a b m → n ≡ m
  one_node a b n m (inl x) (inl y) = (one_place a b x.generation y.generation x.place y.place n m x.at y.at).2
  one_node a b n m (inl x) (inr y) = absurd (one_side a b n m x y)
  one_node a b n m (inr x) (inl y) = absurd (one_side a b m n y x)
  one_node a b n m (inr x) (inr y) = (one_place b a x.generation y.generation x.place y.place n m x.at y.at).2
