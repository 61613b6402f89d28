-- The moments of a checkpoint, step by step, and where it stops.
--     stays               what is good at each moment of a run is so behind it
--     gate_off, filled_off     while the side that isn't in use is looked at, and filled
--     off_stays           so what led to the sides stays good up to there
--     arms, armed_stays   that side may be armed then, and so it is while it is
--     put_stays, retired_stays     the same of the side in use;  while that one is retired
--     armed_holds, armed_stops     while a side that was filled is armed, it holds the node or may do so
--     put_stops, retired_stops     a call on the side that isn't in use fails;  one on the side in use
--     still_stays, moved_stays, moved_sound     so it is of an engine, and what that keeps behind it
use Rattle.std.proofs.Common.{◌≡◌, ◌⊎◌, ℕ, ◌+◌, ◌<◌, ◌≤◌, List, [], ◌∷◌, length, Result, Ok, Err, inl, inr, refl, sym, ◌∙◌, ap, subst, arith}
use Rattle.std.specs.Prelude.{false, None, OnErr, IfErr}
use Rattle.cc_messages.specs.declared.event.Event.{Event}
use Rattle.cc_messages.specs.declared.output.Output.{Output}
use Rattle.cc_site.specs.declared.site.Side.{Side}
use Rattle.cc_site.specs.declared.site.Call.TheVariants.{Write, Sync}
use Rattle.cc_site.specs.declared.site.DeviceFault.{DeviceFault}
use Rattle.cc_site.specs.declared.site.Site.{Ghosts}
use Rattle.cc_site.specs.Sides.{SideState, MayLeave, other, written, settled, durable, MayHaveWritten}
use Rattle.cc_site.specs.SideLaws.{other_other, durable_only}
use Rattle.cc_site.specs.Moments.{Contents, Possible, CountsOneFault}
use Rattle.cc_site.specs.Gates.{IsShut}
use Rattle.cc_site.specs.Runs.{EachMoment, OnlyNow, CountsNow, started, joined, weaker, now_has}
use Rattle.cc_node.specs.Node.{Node, after}
use Rattle.cc_node_state.specs.Sides.{OPEN, IsArmed, StandsAt}
use Rattle.cc_node_state.specs.Fronts.{held_armed}
use Rattle.cc_node_state.specs.Good.{RestsAt}
use Rattle.cc_checkpoint.specs.Images.{SpellsImage, image_holds}
use Rattle.cc_checkpoint.specs.Checkpoints.{image_of, IsSurelyShut, IsFilled, IsGoodForAll, KeepsOff, RestsOff, RestsOn, ArmsFor}
use Rattle.cc_checkpoint.specs.Stops.{Fills, RetireStops}
use Rattle.cc_checkpoint.proofs.OffRuns.{rest_after, then_off}
use Rattle.cc_journal.specs.declared.entry.Entry.{Entry}
use Rattle.cc_journal.specs.Batches.{AreLawful, events_in}
use Rattle.cc_journal.specs.Journals.{Position, StaysGood}
use Rattle.cc_journal.proofs.Rests.{rests_whole_good, rest_of}
use Rattle.cc_flush.specs.Engine.{Engine, IsSettled, StandsNow, IsSound}
use Rattle.cc_flush.specs.Commits.{LeadsTo}
use Rattle.cc_flush.specs.Checkpoints.{RestsFrom, Begins, FilledStops, SidesStop}
use Rattle.cc_flush.proofs.KeptSides.{MayRead, settled_bytes, rested}

-- a side that has no unsynced change is shut where a read gives a closed gate
surely_shut : (side : SideState) → IsSettled side → IsSurelyShut side
surely_shut side is shut bytes may = subst IsShut (sym (settled_bytes side is bytes may)) shut

module _ {D : Type 0} (s : Ghosts D) where
  pub stays : (led : Node → List Event → ℕ → Type 0) (old new : D) → CountsNow s new
      → ((start : Node) (events : List Event) (opening : ℕ) → led start events opening → EachMoment s old new (IsGoodForAll start events opening))
      → StaysGood s led old new
  stays led old new counts runs = record {
    moments = runs;
    afterwards = λ start events opening is. now_has s old new (IsGoodForAll start events opening) (runs start events opening is) counts;
  }

  pub gate_off : (side : Side) (old first : D) → EachMoment s old first (Possible (s.state old) (s.sent old)) → KeepsOff s side old first
  gate_off side old first run generation place start events opening rest =
      weaker s old first (Possible (s.state old) (s.sent old)) (RestsOff side generation place start events opening) run rest

  pub filled_off : (side : Side) (old first second : D) → CountsNow s first → IsSettled (s.state old side)
      → (1 ≤ length (s.state old side).bytes → EachMoment s old first (Possible (s.state old) (s.sent old)))
      → (1 ≤ length (s.state old side).bytes → s.state first ≡ s.state old) → (IsSurelyShut (s.state first side) → KeepsOff s side first second)
      → 1 ≤ length (s.state old side).bytes → KeepsOff s side old second
  filled_off side old first second counts settled run same fills there =
      then_off s side old first second (gate_off side old first (run there)) counts
      (fills (subst (λ (t : Side → SideState). IsSurelyShut (t side)) (sym (same there)) (surely_shut (s.state old side) settled)))

  -- the moment is good where the other side holds the node
  off_is_good : (side : Side) (place generation : ℕ) (start : Node) (events : List Event) (opening : ℕ) (left : Contents) (told : List Output)
      → RestsOff side generation place start events opening left told → IsGoodForAll start events opening left told
  off_is_good side place generation start events opening left told =
      rests_whole_good (record { side = other side; place = place }) generation start events opening (length events) left told (omega arith)

  module _ (may_read : MayRead s) (old : D) (h : s.honest old) (node : Node) (lower : ℕ) where
    -- what is read of both sides
    read_rests : (at : Position) (start : Node) (events : List Event) (opening : ℕ) → RestsFrom s node at lower old start events opening
        → RestsAt lower at.place start events opening (s.state old at.side).bytes (s.state old (other at.side)).bytes (s.sent old)
    read_rests at start events opening led =
        rest_of (s.state old) (s.sent old) at lower start events opening led.rests
        (s.state old at.side).bytes (s.state old (other at.side)).bytes (may_read old h at.side) (may_read old h (other at.side))

    module _ (side : Side) (place : ℕ) where
      -- this side isn't in use
      abbrev pub From : Node → List Event → ℕ → Type 0
      From = RestsFrom s node (record { side = other side; place = place }) lower old

      there : (start : Node) (events : List Event) (opening : ℕ) → From start events opening → 1 ≤ length (s.state old side).bytes
      there start events opening led =
          subst (λ (on : Side). 1 ≤ length (s.state old on).bytes) (other_other side)
          (read_rests (record { side = other side; place = place }) start events opening led).other_there

      off_good : (new : D) → KeepsOff s side old new → (start : Node) (events : List Event) (opening : ℕ) → From start events opening
          → EachMoment s old new (IsGoodForAll start events opening)
      off_good new keeps start events opening led =
          weaker s old new (RestsOff side lower place start events opening) (IsGoodForAll start events opening)
          (keeps lower place start events opening led.rests) (off_is_good side place lower start events opening)

      pub off_stays : (new : D) → CountsNow s new → (1 ≤ length (s.state old side).bytes → KeepsOff s side old new) → StaysGood s From old new
      off_stays new counts keeps =
          stays From old new counts (λ start events opening led. off_good new (keeps (there start events opening led)) start events opening led)

      module _ (second : D) (counts : CountsNow s second) (keeps : 1 ≤ length (s.state old side).bytes → KeepsOff s side old second)
          (next : ℕ) (below : lower < next) (filled : IsFilled (s.state second side) next node) where
        pub arms : (start : Node) (events : List Event) (opening : ℕ) → From start events opening → ArmsFor s side second next start events opening
        arms start events opening led = record {
          generation = lower;
          place = place;
          rests = rest_after s side old second (keeps (there start events opening led)) counts lower place start events opening led.rests;
          filled = subst (IsFilled (s.state second side) next) led.is filled;
          above = below;
        }

        pub armed_stays : (third : D) → CountsNow s third
            → ((next : ℕ) (start : Node) (events : List Event) (opening : ℕ) → ArmsFor s side second next start events opening
            → EachMoment s second third (IsGoodForAll start events opening)) → StaysGood s From old third
        armed_stays third counts_third run =
            stays From old third counts_third (λ start events opening led.
            joined s old second third (IsGoodForAll start events opening) (off_good second (keeps (there start events opening led)) start events opening led)
            (run next start events opening (arms start events opening led)))

    -- `off` is the side in use, and `on` the other one
    module _ (at : Position) (off on : Side) (off_is : off ≡ at.side) (on_is : on ≡ other off) where
      seen_in_use : (P : Side → Type 0) → P (other on) → P at.side
      seen_in_use P = subst P (ap other on_is ∙ other_other off ∙ off_is)

      pub put_stays : (first : D) → StaysGood s (From on at.place) old first → StaysGood s (RestsFrom s node at lower old) old first
      put_stays first = seen_in_use (λ (side : Side). StaysGood s (RestsFrom s node (record { side = side; place = at.place }) lower old) old first)

      pub retired_stays : (next : ℕ) (first second : D) → CountsNow s second → StaysGood s (From on at.place) old first
          → ((start : Node) (events : List Event) (opening : ℕ) → From on at.place start events opening
          → RestsOn s first on next (length (image_of next (after start events))) start events opening)
          → s.state first (other on) ≡ s.state old (other on) → (IsArmed (s.state first off).bytes → KeepsOff s off first second)
          → StaysGood s (RestsFrom s node at lower old) old second
      retired_stays next first second counts good rests same retires =
          put_stays second (stays (From on at.place) old second counts (λ start events opening led.
          let front = read_rests (record { side = other on; place = at.place }) start events opening led in
          let armed : IsArmed (s.state first (other on)).bytes =
          subst (λ (side : SideState). IsArmed side.bytes) (sym same)
          (held_armed (s.state old (other on)).bytes lower (after start events) at.place front.stands.holds) in
          let back : other on ≡ off = ap other on_is ∙ other_other off in
          let place = length (image_of next (after start events)) in
          joined s old first second (IsGoodForAll start events opening) (good.moments start events opening led)
          (weaker s first second (RestsOff off next place start events opening) (IsGoodForAll start events opening)
          (retires (subst (λ (side : Side). IsArmed (s.state first side).bytes) back armed) next place start events opening
          (subst (λ (side : Side). RestsOn s first side next place start events opening) on_is (rests start events opening led)))
          (off_is_good off place next start events opening))))

-- ---- where it stops at a disk call that fails

module _ (filled armed : SideState) (generation : ℕ) (node : Node) (is : IsFilled filled generation node) where
  pub armed_holds : armed ≡ settled (written filled 0 (OPEN ∷ [])) → armed ≡ durable (OPEN ∷ image_of generation node)
  armed_holds opened = opened ∙ ap (λ (t : SideState). settled (written t 0 (OPEN ∷ []))) is.is

  pub armed_stops : (was : SideState) (before now : ℕ) (side : Side) (result : Result (Unit {0}) DeviceFault)
      → OnErr result (MayHaveWritten filled 0 (OPEN ∷ []) armed) → CountsOneFault before now side Write Sync result
      → IfErr result (λ f. FilledStops generation node was f.call armed)
  armed_stops was before now side (Ok done) may fault = tt
  armed_stops was before now side (Err f) may fault = inr (inr (filled, is, fault.1, may))

-- `off` is the side in use, and `on` the other one
module _ (in_use off on : Side) (off_is : off ≡ in_use) (on_is : on ≡ other off) (generation : ℕ) (node : Node) (old first : Side → SideState)
    (same : first (other on) ≡ old (other on)) where
  kept : first off ≡ old off
  kept = subst (λ (side : Side). first side ≡ old side) (ap other on_is ∙ other_other off) same

  pub put_stops : (fault : DeviceFault) → Begins on fault.side fault.call ⊎ Fills on fault.side fault.call
      → FilledStops generation node (old on) fault.call (first on) → SidesStop in_use generation node old first fault
  put_stops fault calls stops =
      subst (λ (side : Side). SidesStop side generation node old first fault) off_is (inl (
        on_side calls ∙ on_is,
        kept,
        subst (λ (side : Side). FilledStops generation node (old side) fault.call (first side)) on_is stops,
      ))
    where
      on_side : Begins on fault.side fault.call ⊎ Fills on fault.side fault.call → fault.side ≡ on
      on_side (inl begins) = begins.0
      on_side (inr fills) = fills.0

  pub retired_stops : first on ≡ durable (OPEN ∷ image_of generation node) → (second : Side → SideState) (fault : DeviceFault) → fault.side ≡ off
      → second (other off) ≡ first (other off) → RetireStops (first off) fault.call (second off) → SidesStop in_use generation node old second fault
  retired_stops holds second fault at rest stops =
      subst (λ (side : Side). SidesStop side generation node old second fault) off_is (inr (
        at,
        rest ∙ subst (λ (side : Side). first side ≡ durable (OPEN ∷ image_of generation node)) on_is holds,
        subst (λ (was : SideState). RetireStops was fault.call (second off)) kept stops,
      ))

-- ---- of an engine

abbrev pub MoveStays : {D : Type 0} → Ghosts D → D → Engine D → Type 0
MoveStays s new e = e.owes ≡ false → s.honest e.site → e.failed ≡ None → StaysGood s (LeadsTo s e) e.site new

module _ {D : Type 0} (s : Ghosts D) (e : Engine D) where
  -- where nothing is done
  pub still_stays : OnlyNow s e.site → StaysGood s (LeadsTo s e) e.site e.site
  still_stays only = record {
    moments = λ start events opening led.
        started s e.site (IsGoodForAll start events opening) (λ left told since. led.good left told (only left told since));
    afterwards = λ start events opening led. led.good;
  }

  -- from what led to an engine on, a checkpoint stays good
  pub moved_stays : (new : D) → MayRead s → IsSound s e
      → (s.honest e.site → IsSettled (s.state e.site (other e.at.side)) → StaysGood s (RestsFrom s e.twin e.at e.generation e.site) e.site new)
      → MoveStays s new e
  moved_stays new may_read sound good idle h none =
      let rests = good h (sound.other_settled h none) in
      record {
        moments = λ start events opening led. rests.moments start events opening (from start events opening led);
        afterwards = λ start events opening led. rests.afterwards start events opening (from start events opening led);
      }
    where
      from : (start : Node) (events : List Event) (opening : ℕ) → LeadsTo s e start events opening
          → RestsFrom s e.twin e.at e.generation e.site start events opening
      from start events opening led =
          record { is = led.twin; rests = rested s may_read e sound h start events opening led.good none idle led.twin }

  abbrev image : List ℕ
  image = image_of e.generation e.twin

  -- what an engine keeps behind one
  pub moved_sound : (old : Side) → e.at ≡ record { side = other old; place = length image } → e.used ≡ e.at.place + 1 → e.failed ≡ None
      → e.owed ≡ [] → (s.honest e.site → s.state e.site (other old) ≡ durable (OPEN ∷ image))
      → (s.honest e.site → SpellsImage image e.generation e.twin) → (s.honest e.site → s.state e.site old ≡ durable (0 ∷ [])) → IsSound s e
  moved_sound old at used none idle holds spelled retired = record {
    reaches = omega (arith, used);
    within = λ h _. omega (arith, place, ap (λ (t : SideState). length t.bytes) (this h));
    is_length = λ h _. omega (arith, used, place, ap (λ (t : SideState). length t.bytes) (this h));
    goes_on = λ _. none;
    other_settled = λ h _. subst IsSettled (sym (rest h)) refl;
    idle = λ _. idle;
    lawful = subst (AreLawful e.twin) (sym idle) tt;
    stands = λ h _ _.
        subst (λ (l : List Entry). StandsNow (s.state e.site) e.at e.generation (after e.twin (events_in l))) (sym idle) (stands h);
  }
    where
      place : e.at.place ≡ length image
      place = ap (λ p. p.place) at

      this : s.honest e.site → s.state e.site e.at.side ≡ durable (OPEN ∷ image)
      this h = ap (λ p. s.state e.site p.side) at ∙ holds h

      rest : s.honest e.site → s.state e.site (other e.at.side) ≡ durable (0 ∷ [])
      rest h = ap (λ p. s.state e.site (other p.side)) at ∙ ap (λ (t : Side). s.state e.site t) (other_other old) ∙ retired h

      stands : s.honest e.site → StandsNow (s.state e.site) e.at e.generation e.twin
      stands h bytes others may may_other =
          let is : bytes ≡ OPEN ∷ image = durable_only (OPEN ∷ image) bytes (subst (λ (t : SideState). MayLeave t bytes) (this h) may) in
          let shut : others ≡ 0 ∷ [] = durable_only (0 ∷ []) others (subst (λ (t : SideState). MayLeave t others) (rest h) may_other) in
          subst (λ (n : ℕ). StandsAt bytes others e.generation n e.twin) (sym place)
          (subst (λ (l : List ℕ). StandsAt l others e.generation (length image) e.twin) (sym is)
          (subst (λ (l : List ℕ). StandsAt (OPEN ∷ image) l e.generation (length image) e.twin) (sym shut)
          (record { holds = image_holds image e.generation e.twin (spelled h); yields = inl (λ armed. absurd cc) })))
