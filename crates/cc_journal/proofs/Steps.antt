-- What holds at each moment of a step of a journal.
--     StaysAtRest, behind_gate         the sides rest on while something is written behind the closed gate
--     still_good                       a call that touches nothing fails
--     IsSure                           a sync made sure of the batch behind the gate
--     gate_opens, gate_opened          and then the gate is opened
use Rattle.std.proofs.Common.{◌≡◌, ℕ, ◌+◌, ◌<◌, ◌≤◌, List, [], ◌∷◌, ◌++◌, length, take, drop, set, sym, ◌∙◌, ap, subst, arith, add-one}
use Rattle.std.proofs.lemmas.List.{append_assoc, set_split}
use Rattle.cc_messages.specs.declared.event.Event.{Event}
use Rattle.cc_messages.specs.declared.output.Output.{Output}
use Rattle.cc_site.specs.declared.site.Side.{Side}
use Rattle.cc_site.specs.declared.site.Site.{Ghosts}
use Rattle.cc_site.specs.Sides.{SideState, MayLeave, other, touch, written, settled}
use Rattle.cc_site.specs.SideLaws.{settled_only}
use Rattle.cc_site.specs.Moments.{Contents, Within, Nothing}
use Rattle.cc_site.specs.Runs.{Passes, EachMoment, OnlyNow, CountsNow, started, goes_on, joined, weaker, now_has}
use Rattle.cc_node.specs.Node.{Node, after}
use Rattle.cc_node_state.specs.Sides.{OPEN, SpellsBatch, StandsBehind}
use Rattle.cc_node_state.specs.Good.{RestsAt}
use Rattle.cc_node_state.specs.Fronts.{holds_within}
use Rattle.cc_journal.specs.Journals.{Position, Rests, RestsNow, RestsFor, KeepsGood, with_open_gate}
use Rattle.cc_journal.proofs.Rests.{IsReady, behind_rests, rest_of, rests_more_good, gate_good, opened_rests}

module _ {D : Type 0} (s : Ghosts D) where
  -- from each history before which the sides rest, each moment is good for more events, and after it the sides rest as before
  pub record StaysAtRest (old new : D) (at : Position) (more : List Event) : Type 0 where
    pub moments : (generation : ℕ) → KeepsGood s (RestsNow s old at generation) more old new
    pub afterwards : (generation : ℕ) (start : Node) (events : List Event) (opening : ℕ) → RestsNow s old at generation start events opening
        → RestsNow s new at generation start events opening

  module _ (old new : D) (at : Position) (only : OnlyNow s old) where
    -- a call at each moment of which they rest
    runs : (generation : ℕ) (start : Node) (events : List Event) (opening : ℕ) → RestsNow s old at generation start events opening
        → (here : Contents → List Output → Type 0) → Passes s old new here
        → ((left : Contents) (told : List Output) → here left told → Rests at generation start events opening left told)
        → EachMoment s old new (Rests at generation start events opening)
    runs generation start events opening rest here = goes_on s old old new _ here (started s old _ (λ left told since. rest left told (only left told since)))

    pub behind_gate : (n : ℕ) → Passes s old new (Within at.side (touch (s.state old at.side) (at.place + 1) n) (s.state old) (s.sent old))
        → at.place + 1 ≤ length (s.state old at.side).bytes → CountsNow s new → (more : List Event) → StaysAtRest old new at more
    behind_gate n time fits counts more = record {
      moments = λ generation start events opening rest.
          weaker s old new _ _ (run generation start events opening rest) (rests_more_good at generation start events opening more);
      afterwards = λ generation start events opening rest. now_has s old new _ (run generation start events opening rest) counts;
    }
      where
        run : (generation : ℕ) (start : Node) (events : List Event) (opening : ℕ) → RestsNow s old at generation start events opening
            → EachMoment s old new (Rests at generation start events opening)
        run generation start events opening rest = runs generation start events opening rest _ time
            (behind_rests (s.state old) (s.sent old) at generation start events opening rest n fits)

    still : Passes s old new Nothing → (generation : ℕ) (start : Node) (events : List Event) (opening : ℕ)
        → RestsNow s old at generation start events opening → EachMoment s old new (Rests at generation start events opening)
    still time generation start events opening rest = runs generation start events opening rest Nothing time (λ left told none. absurd none)

    pub still_good : Passes s old new Nothing → (batch : List Event) (generation : ℕ) → KeepsGood s (RestsFor s batch old at generation) batch old new
    still_good time batch generation start events opening led = weaker s old new _ _ (still time generation start events opening led.rests)
        (rests_more_good at generation start events opening batch)

  -- the bytes of a batch stand behind the closed gate, and a sync made sure of the side
  pub record IsSure (old mid : D) (at : Position) (bytes : List ℕ) (batch : List Event) : Type 0 where
    pub only : OnlyNow s old
    pub counts : CountsNow s mid
    pub time : Passes s old mid Nothing
    pub made_sure : s.state mid at.side ≡ settled (s.state old at.side)
    pub read : (side : Side) → MayLeave (s.state mid side) (s.state mid side).bytes
    pub spelled : SpellsBatch bytes batch
    pub standing : StandsBehind (s.state old at.side).bytes at.place bytes

  module _ (old mid new : D) (at : Position) (bytes : List ℕ) (batch : List Event) (sure : IsSure old mid at bytes batch) where
    ready : IsReady (s.state mid at.side) at.place bytes batch
    ready = record {
      only = λ c may. settled_only (s.state old at.side) c (subst (λ (t : SideState). MayLeave t c) sure.made_sure may)
          ∙ ap (λ (t : SideState). t.bytes) (sym sure.made_sure);
      read = sure.read at.side;
      spelled = sure.spelled;
      standing = subst (λ (t : SideState). StandsBehind t.bytes at.place bytes) (sym sure.made_sure) sure.standing;
    }

    rest_mid : (generation : ℕ) (start : Node) (events : List Event) (opening : ℕ) → RestsFor s batch old at generation start events opening
        → RestsNow s mid at generation start events opening
    rest_mid generation start events opening led =
        now_has s old mid _ (still old mid at sure.only sure.time generation start events opening led.rests) sure.counts

    pub gate_opens : EachMoment s mid new (Within at.side (touch (s.state mid at.side) at.place 1) (s.state mid) (s.sent mid)) → (generation : ℕ)
        → KeepsGood s (RestsFor s batch old at generation) batch old new
    gate_opens run generation start events opening led =
        joined s old mid new _ (still_good old mid at sure.only sure.time batch generation start events opening led)
        (weaker s mid new _ _ run (gate_good (s.state mid) (s.sent mid) at generation start events opening
        (rest_mid generation start events opening led) bytes batch ready led.lawful))

    pub gate_opened : s.state new at.side ≡ with_open_gate (s.state mid at.side) at.place → s.state new (other at.side) ≡ s.state mid (other at.side)
        → s.sent new ≡ s.sent mid → (generation : ℕ) (start : Node) (events : List Event) (opening : ℕ)
        → RestsFor s batch old at generation start events opening
        → RestsNow s new (record { side = at.side; place = at.place + length bytes }) generation start (events ++ batch) opening
    gate_opened opened same outlet generation start events opening led left told possible =
        let now = (s.state mid at.side).bytes in
        let rest = rest_mid generation start events opening led in
        let was = rest_of (s.state mid) (s.sent mid) at generation start events opening rest now _ ready.read (sure.read (other at.side)) in
        let inside : at.place < length now = omega (arith, holds_within now generation (after start events) at.place was.stands.holds) in
        let is = settled_only (written (s.state mid at.side) at.place (OPEN ∷ [])) (left at.side)
        (subst (λ (t : SideState). MayLeave t (left at.side)) opened (possible.each at.side)) in
        let set_open : left at.side ≡ set now at.place OPEN = is ∙ append_assoc (take at.place now) (OPEN ∷ []) (drop (at.place + 1) now)
        ∙ (λ i. take at.place now ++ OPEN ∷ drop (add-one at.place i) now) ∙ sym (set_split now at.place OPEN inside) in
        subst (λ (l : List ℕ). RestsAt generation (at.place + length bytes) start (events ++ batch) opening l (left (other at.side)) told) (sym set_open)
        (opened_rests (s.state mid) (s.sent mid) at generation start events opening rest bytes batch ready led.lawful (left (other at.side)) told
        (subst (λ (t : SideState). MayLeave t (left (other at.side))) same (possible.each (other at.side))) (possible.outlet ∙ outlet))
