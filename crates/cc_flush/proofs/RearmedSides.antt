-- What a crash leaves while a node is opened anew.
--     peeked_armed        a side that is told as armed is so
--     both_armed          both are, where one of them is told as the older one
--     from_side           a moment that is good as seen from a side
--     found_good          a good moment is good for the events alone that it has, all of them durable
--     widened             and for those behind them too, of which fewer need be durable
--     gate_again_good     while the newer side's gate is written over itself, both sides being armed
--     led_on              reads leave what led to the sides
--     reads_stay, looked_stays, sync_stays, gate_stays      each moment is good: of reads, of what follows them, of a sync, and of that write
--     opened_stays        up to the sides being read
--     found               the node that is found there is that after as many events as were found, all of them durable
--     moved_stays         and then through the move
use Rattle.std.proofs.Common.{◌≡◌, ◌≤◌, inl, inr, ℕ, List, length, take, drop, set, get_or, Bool, true, false, eqb, ltb, slice_index, refl, sym, ◌∙◌, ap, subst, arith}
use Rattle.std.specs.Prelude.{if◌then◌else◌, Some}
use Rattle.std.proofs.lemmas.Bool.{cases_eq, eqb-true}
use Rattle.std.proofs.lemmas.Option.{none-some}
use Rattle.std.proofs.lemmas.List.{length-set, set-get_or, take_all, take-append-drop, length-take-le}
use Rattle.cc_messages.specs.declared.event.Event.{Event}
use Rattle.cc_messages.specs.declared.output.Output.{Output}
use Rattle.cc_site.specs.declared.site.Side.{Side}
use Rattle.cc_site.specs.declared.site.Side.TheVariants.{A, B}
use Rattle.cc_site.specs.declared.site.Site.{Ghosts}
use Rattle.cc_site.specs.Sides.{SideState, MayLeave, other, touch, settled}
use Rattle.cc_site.specs.FrontLaws.{restored}
use Rattle.cc_site.specs.SideLaws.{settled_only}
use Rattle.cc_site.specs.Moments.{Contents, Possible, Within, Nothing}
use Rattle.cc_site.specs.Reads.{OnlyReads, bytes_of, read_each, reads_then}
use Rattle.cc_site.specs.Runs.{EachMoment, Passes, OnlyNow, CountsNow, started, rests, joined, weaker, now_has}
use Rattle.cc_site.specs.Crashes.{AfterCrash, after_crash_of}
use Rattle.cc_node.specs.Node.{Node, after}
use Rattle.cc_node_state.specs.Sides.{OPEN, IsArmed, generation_of, Holds, StandsAt, Stands}
use Rattle.cc_node_state.specs.Good.{AllMade, IsGoodAt}
use Rattle.cc_node_state.specs.GoodLaws.{good_for_more, good_other_way, whole_good}
use Rattle.cc_checkpoint.specs.declared.side_choice.Peeked.{Peeked}
use Rattle.cc_checkpoint.specs.declared.side_choice.Peeked.TheVariants.{Closed, Armed, Short}
use Rattle.cc_checkpoint.specs.SideChoice.{peek_of}
use Rattle.cc_checkpoint.proofs.OffRuns.{armed_there}
use Rattle.cc_journal.specs.Journals.{IsGood, StaysGood}
use Rattle.cc_flush.specs.Engine.{Engine, IsSettled}
use Rattle.cc_flush.specs.Commits.{LeadsTo}
use Rattle.cc_flush.specs.Openings.{AreSettled}
use Rattle.cc_flush.specs.Reopenings.{HoldsTwice, IsReopened, LeadsToSite, StaysDurable, older_of}
use Rattle.cc_flush.proofs.KeptSides.{MayRead, settled_bytes, to_side}

told_armed : (armed short : Bool) (told here : ℕ) → Armed told ≡ (if armed then (if short then Short else Armed here) else Closed) → armed ≡ true
told_armed true short told here is = refl
told_armed false short told here is = absurd cc

pub peeked_armed : (bytes : List ℕ) (told : ℕ) → Armed told ≡ peek_of bytes → IsArmed bytes
peeked_armed bytes told is =
    eqb-true _ _ (told_armed (eqb (get_or bytes 0 0) OPEN) (ltb (length bytes) 9) told (generation_of bytes) is)

-- ---- both sides are looked at

module _ (state : Side → SideState) where
  pub both_armed : (p q : Peeked) (older : Side) → p ≡ peek_of (state A).bytes → q ≡ peek_of (state B).bytes → Some older ≡ older_of p q
      → (side : Side) → IsArmed (state side).bytes
  both_armed (Armed a) (Armed b) older first second is A = peeked_armed (state A).bytes a first
  both_armed (Armed a) (Armed b) older first second is B = peeked_armed (state B).bytes b second
  both_armed (Armed a) _ older first second is side = absurd (none-some older (sym is))
  both_armed _ q older first second is side = absurd (none-some older (sym is))

-- ---- good moments

pub from_side : (side : Side) (start : Node) (events : List Event) (durable opening : ℕ) (left : Contents) (told : List Output)
    → IsGoodAt start events durable opening (left side) (left (other side)) told → IsGood start events durable opening left told
from_side A start events durable opening left told good = good
from_side B start events durable opening left told good = good_other_way start events durable opening (left B) (left A) told good

pub found_good : (start : Node) (events : List Event) (durable opening : ℕ) (a b : List ℕ) (told : List Output)
    → (was : IsGoodAt start events durable opening a b told)
    → IsGoodAt start (take was.prefix events) (length (take was.prefix events)) opening a b told
found_good start events durable opening a b told was =
    let found = take was.prefix events in
    let all : take (length found) found ≡ found = take_all (length found) found (omega arith) in
    record {
      a_there = was.a_there;
      b_there = was.b_there;
      prefix = length found;
      has_durable = omega arith;
      within = omega arith;
      stands = subst (λ (l : List Event). Stands a b (after start l)) (sym all) was.stands;
      made = subst (λ (l : List Event). AllMade start l opening told) (sym all) was.made;
    }

pub widened : (start : Node) (events : List Event) (durable opening prefix : ℕ) (left : Contents) (told : List Output)
    → durable ≤ prefix → prefix ≤ length events
    → IsGood start (take prefix events) (length (take prefix events)) opening left told → IsGood start events durable opening left told
widened start events durable opening prefix left told has within good =
    let found = take prefix events in
    let long : length found ≡ prefix = length-take-le prefix events within in
    subst (λ (l : List Event). IsGood start l durable opening left told) (take-append-drop prefix events)
    (good_for_more start found (drop prefix events) (length found) durable opening (left A) (left B) told (omega (arith, has, long)) good)

-- ---- the newer side's gate is written over itself

module _ (start : Node) (events : List Event) (durable opening : ℕ) (older : Side) (state : Side → SideState) (sent : List Output)
    (good : AfterCrash state sent (IsGood start events durable opening)) (all : length events ≤ durable) (armed : IsArmed (state (other older)).bytes)
    (generation place : ℕ) (holds : Holds (state older).bytes generation (after start events) place) (sure : IsSettled (state older)) where
  abbrev newer : SideState
  newer = state (other older)

  -- with its gate open, the newer side was possible before
  before : (left : Contents) → MayLeave (touch newer 0 1) (left (other older)) → MayLeave (state older) (left older)
      → IsGoodAt start events durable opening (left older) (set (left (other older)) 0 OPEN) sent
  before left this rest =
      after_crash_of state sent older (IsGoodAt start events durable opening)
      (λ was told possible. to_side older start events durable opening was told (good was told possible))
      (left older) (set (left (other older)) 0 OPEN) rest
      (subst (λ (b : ℕ). MayLeave newer (set (left (other older)) 0 b)) armed (restored newer 0 (armed_there newer.bytes armed) (left (other older)) this))

  pub gate_again_good : (left : Contents) (told : List Output) → MayLeave (touch newer 0 1) (left (other older)) → MayLeave (state older) (left older)
      → told ≡ sent → IsGood start events durable opening left told
  gate_again_good left told this rest outlet =
      let c = left (other older) in
      let was = before left this rest in
      from_side older start events durable opening left told
      (subst (IsGoodAt start events durable opening (left older) c) (sym outlet)
      (elim (cases_eq (slice_index c 0) OPEN) [
        | inl opened ↦ subst (λ (l : List ℕ). IsGoodAt start events durable opening (left older) l sent)
            (ap (λ (b : ℕ). set c 0 b) (sym opened) ∙ set-get_or c 0 0) was
        | inr shut ↦ whole_good generation place start events opening (left older) c sent
            (record {
              other_there = omega (arith, was.b_there, length-set c 0 OPEN);
              stands = record {
                holds = subst (λ (l : List ℕ). Holds l generation (after start events) place) (sym (settled_bytes (state older) sure (left older) rest)) holds;
                yields = inl shut;
              };
              made = subst (λ (l : List Event). AllMade start l opening sent) (take_all was.prefix events (omega (arith, all, was.has_durable))) was.made;
            }) durable (omega (arith, was.has_durable, was.within))
      ]))

-- what may be left of each side while the one that isn't `side` is touched
of_each : (side : Side) (bound : SideState) (state : Side → SideState) (sent : List Output) (left : Contents) (told : List Output)
    → Within (other side) bound state sent left told → MayLeave bound (left (other side)) × MayLeave (state side) (left side)
of_each A bound state sent left told within = (within.this, within.rest)
of_each B bound state sent left told within = (within.this, within.rest)

module _ {D : Type 0} (s : Ghosts D) where
  -- where each moment is good, so is the one behind them
  stays_durable : (old new : D) → CountsNow s new
      → ((start : Node) (events : List Event) (durable opening : ℕ) → LeadsToSite s old start events durable opening
      → EachMoment s old new (IsGood start events durable opening)) → StaysDurable s old new
  stays_durable old new counts runs = record {
    moments = runs;
    afterwards = λ start events durable opening led.
        now_has s old new (IsGood start events durable opening) (runs start events durable opening led) counts;
  }

  led_on : (old mid : D) → s.honest old → OnlyReads s old mid → (start : Node) (events : List Event) (durable opening : ℕ)
      → LeadsToSite s old start events durable opening → LeadsToSite s mid start events durable opening
  led_on old mid h reads start events durable opening led = record {
    good = subst (λ (sent : List Output). AfterCrash (s.state mid) sent (IsGood start events durable opening)) (sym reads.keeps_telling.1)
        (subst (λ (state : Side → SideState). AfterCrash state (s.sent old) (IsGood start events durable opening)) (sym (reads.keeps_state h)) led.good);
    twice = subst (λ (state : Side → SideState). IsArmed (state A).bytes → IsArmed (state B).bytes
        → (length events ≤ durable) × HoldsTwice (λ side. (state side).bytes) (after start events)) (sym (reads.keeps_state h)) led.twice;
  }

  read_moments : (old new : D) → s.honest old → OnlyNow s old → OnlyReads s old new → (start : Node) (events : List Event) (durable opening : ℕ)
      → LeadsToSite s old start events durable opening → EachMoment s old new (IsGood start events durable opening)
  read_moments old new h only reads start events durable opening led =
      read_each s old new (IsGood start events durable opening) reads h (λ left told since. led.good left told (only left told since))

  pub reads_stay : (old new : D) → s.honest old → OnlyNow s old → CountsNow s new → OnlyReads s old new → StaysDurable s old new
  reads_stay old new h only counts reads = stays_durable old new counts (read_moments old new h only reads)

  -- both sides were looked at, and one is told as the older one
  pub looked_stays : (old first mid new : D) → s.honest old → OnlyNow s old → CountsNow s new → OnlyReads s old first → OnlyReads s first mid
      → (p q : Peeked) (older : Side) → p ≡ peek_of (s.state old A).bytes → q ≡ peek_of (s.state first B).bytes → Some older ≡ older_of p q
      → (s.honest mid → ((side : Side) → IsArmed (s.state mid side).bytes) → StaysDurable s mid new) → StaysDurable s old new
  looked_stays old first mid new h only counts one two p q older at_a at_b is good =
      let reads = reads_then s old first mid one two in
      let armed = both_armed (s.state old) p q older at_a (subst (λ (state : Side → SideState). q ≡ peek_of (state B).bytes) (one.keeps_state h) at_b) is in
      let behind = good (reads.keeps_honesty.0 h) (λ side.
      subst (λ (state : Side → SideState). IsArmed (state side).bytes) (sym (reads.keeps_state h)) (armed side)) in
      stays_durable old new counts (λ start events durable opening led.
      joined s old mid new (IsGood start events durable opening) (read_moments old mid h only reads start events durable opening led)
      (behind.moments start events durable opening (led_on old mid h reads start events durable opening led)))

  module _ (old mid : D) (only : OnlyNow s old) (counts : CountsNow s mid) (time : Passes s old mid Nothing) where
    synced : (start : Node) (events : List Event) (durable opening : ℕ) → LeadsToSite s old start events durable opening
        → EachMoment s old mid (IsGood start events durable opening)
    synced start events durable opening led =
        rests s old old mid (IsGood start events durable opening)
        (started s old (IsGood start events durable opening) (λ left told since. led.good left told (only left told since))) time

    pub sync_stays : StaysDurable s old mid
    sync_stays = stays_durable old mid counts synced

    module _ (new : D) (older : Side) (counts_new : CountsNow s new)
        (armed : (side : Side) → IsArmed (s.state old side).bytes)
        (sure : s.state mid older ≡ settled (s.state old older)) (same : s.state mid (other older) ≡ s.state old (other older))
        (run : EachMoment s mid new (Within (other older) (touch (s.state mid (other older)) 0 1) (s.state mid) (s.sent mid))) where
      pub gate_stays : StaysDurable s old new
      gate_stays =
          stays_durable old new counts_new (λ start events durable opening led.
          joined s old mid new (IsGood start events durable opening) (synced start events durable opening led)
          (weaker s mid new (Within (other older) (touch (s.state mid (other older)) 0 1) (s.state mid) (s.sent mid)) (IsGood start events durable opening)
          run (good_within start events durable opening led)))
        where
          good_within : (start : Node) (events : List Event) (durable opening : ℕ) → LeadsToSite s old start events durable opening
              → (left : Contents) (told : List Output)
              → Within (other older) (touch (s.state mid (other older)) 0 1) (s.state mid) (s.sent mid) left told
              → IsGood start events durable opening left told
          good_within start events durable opening led left told within =
              let twice = led.twice (armed A) (armed B) in
              let held = twice.1 older in
              let each = of_each older (touch (s.state mid (other older)) 0 1) (s.state mid) (s.sent mid) left told within in
              gate_again_good start events durable opening older (s.state mid) (s.sent mid)
              (now_has s old mid (IsGood start events durable opening) (synced start events durable opening led) counts) twice.0
              (subst (λ (t : SideState). IsArmed t.bytes) (sym same) (armed (other older)))
              held.0 held.1 (subst (λ (t : SideState). Holds t.bytes held.0 (after start events) held.1) (sym sure) held.2)
              (subst IsSettled (sym sure) refl) left told each.0 each.1 within.outlet

  -- ---- the sides are read

  pub opened_stays : (old mid new : D) → StaysDurable s old mid → EachMoment s mid new (Possible (s.state mid) (s.sent mid)) → CountsNow s new
      → StaysDurable s old new
  opened_stays old mid new first run counts =
      stays_durable old new counts (λ start events durable opening led.
      joined s old mid new (IsGood start events durable opening) (first.moments start events durable opening led)
      (weaker s mid new (Possible (s.state mid) (s.sent mid)) (IsGood start events durable opening) run
      (first.afterwards start events durable opening led)))

  module _ (one : (a b : List ℕ) (n m : Node) → Stands a b n → Stands a b m → n ≡ m) (old mid : D) (e : Engine D) (h : s.honest mid)
      (may_read : MayRead s) (first : StaysDurable s old mid) (sent : s.sent e.site ≡ s.sent mid) (sure : AreSettled (s.state mid) (s.state e.site))
      (stands : StandsAt (s.state mid e.at.side).bytes (s.state mid (other e.at.side)).bytes e.generation e.at.place e.twin) where
    -- a crash leaves what is read
    as_read : (side : Side) (left : List ℕ) → MayLeave (s.state e.site side) left → left ≡ (s.state mid side).bytes
    as_read A left may = settled_only (s.state mid A) left (subst (λ (t : SideState). MayLeave t left) sure.0 may)
    as_read B left may = settled_only (s.state mid B) left (subst (λ (t : SideState). MayLeave t left) sure.1 may)

    pub found : (start : Node) (events : List Event) (durable opening : ℕ) → LeadsToSite s old start events durable opening
        → IsReopened s e start events durable opening
    found start events durable opening led =
        let side = e.at.side in
        let read = bytes_of s mid in
        let was = to_side side start events durable opening read (s.sent mid)
        (first.afterwards start events durable opening led read (s.sent mid) (record { each = may_read mid h; outlet = refl })) in
        let events_found = take was.prefix events in
        record {
          prefix = was.prefix;
          has_durable = was.has_durable;
          within = was.within;
          twin = one (read side) (read (other side)) e.twin (after start events_found)
              (inl (record { generation = e.generation; place = e.at.place; at = stands })) was.stands;
          good = λ left told possible.
              from_side side start events_found (length events_found) opening left told
              (subst (λ (l : List ℕ). IsGoodAt start events_found (length events_found) opening l (left (other side)) told)
              (sym (as_read side (left side) (possible.each side)))
              (subst (λ (l : List ℕ). IsGoodAt start events_found (length events_found) opening (read side) l told)
              (sym (as_read (other side) (left (other side)) (possible.each (other side))))
              (subst (IsGoodAt start events_found (length events_found) opening (read side) (read (other side))) (sym (possible.outlet ∙ sent))
              (found_good start events durable opening (read side) (read (other side)) (s.sent mid) was))));
        }

    -- ---- and then the node is moved

    module _ (new : Engine D) (opened : StaysDurable s old e.site) (twin : new.twin ≡ e.twin) (moved : StaysGood s (LeadsTo s e) e.site new.site) where
      leads : (start : Node) (events : List Event) (durable opening : ℕ) (led : LeadsToSite s old start events durable opening)
          → LeadsTo s e start (take (found start events durable opening led).prefix events) opening
      leads start events durable opening led =
          let it = found start events durable opening led in
          record { twin = it.twin; good = it.good }

      pub moved_found : (start : Node) (events : List Event) (durable opening : ℕ) → LeadsToSite s old start events durable opening
          → IsReopened s new start events durable opening
      moved_found start events durable opening led =
          let it = found start events durable opening led in
          record {
            prefix = it.prefix;
            has_durable = it.has_durable;
            within = it.within;
            twin = twin ∙ it.twin;
            good = moved.afterwards start (take it.prefix events) opening (leads start events durable opening led);
          }

      pub moved_stays : StaysDurable s old new.site
      moved_stays = record {
        moments = λ start events durable opening led.
            let it = found start events durable opening led in
            let all = take it.prefix events in
            joined s old e.site new.site (IsGood start events durable opening) (opened.moments start events durable opening led)
            (weaker s e.site new.site (IsGood start all (length all) opening) (IsGood start events durable opening)
            (moved.moments start all opening (leads start events durable opening led))
            (λ left told. widened start events durable opening it.prefix left told it.has_durable it.within));
        afterwards = λ start events durable opening led left told possible.
            let it = moved_found start events durable opening led in
            widened start events durable opening it.prefix left told it.has_durable it.within (it.good left told possible);
      }
