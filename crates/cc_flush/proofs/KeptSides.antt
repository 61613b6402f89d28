-- What an engine keeps: its sides stand for its node or, while a batch is owed, for the node after it.
--     lawful_after                       the events of a lawful batch are lawful after those that led to its node
--     none_made                          nothing was put since now
--     MayRead                            what a read gives is among what a crash may leave
--     to_side                            a moment that is good, seen from a side
--     resting, good_now, stands_now      they rest where they stand and the moment is good, and the other way
--     rests_there                        from the node that they stand for on, they rest
--     rested, owed_rests                 an engine that owes nothing rests;  one that owes
--     ready, committed_stands            before a batch is made durable;  what that leaves
--     batch_moments                      each moment of that, from what led to the engine on
--     sound_put, sound_released          what it keeps while outputs are put again;  while those of a batch are
use Rattle.std.proofs.Common.{◌≡◌, ℕ, ◌+◌, ◌≤◌, List, [], ◌∷◌, ◌++◌, length, drop, refl, sym, ◌∙◌, ap, subst, arith}
use Rattle.std.specs.Prelude.{false, None}
use Rattle.std.specs.List.{Contains}
use Rattle.std.proofs.lemmas.List.{drop_all}
use Rattle.cc_messages.specs.declared.event.Event.{Event}
use Rattle.cc_messages.specs.declared.output.Output.{Output}
use Rattle.cc_site.specs.declared.site.Side.{Side}
use Rattle.cc_site.specs.declared.site.Site.{Ghosts}
use Rattle.cc_site.specs.declared.site.Side.TheVariants.{A, B}
use Rattle.cc_site.specs.Sides.{SideState, MayLeave, other}
use Rattle.cc_site.specs.SideLaws.{settled_only}
use Rattle.cc_site.specs.Moments.{Contents}
use Rattle.cc_site.specs.Crashes.{AfterCrash}
use Rattle.cc_node.specs.Node.{Node, after, step, IsLawful}
use Rattle.cc_node_state.specs.Good.{AllMade, IsGoodAt}
use Rattle.cc_node_state.specs.GoodLaws.{good_other_way, at_rest_is}
use Rattle.cc_node.specs.Histories.{after-append}
use Rattle.cc_journal.specs.declared.entry.Entry.{Entry}
use Rattle.cc_journal.specs.Batches.{AreLawful, events_in}
use Rattle.cc_journal.specs.Journals.{Position, IsGood, IsAtRest, IsGoodNow, RestsFor, RestsNow, KeepsGood}
use Rattle.cc_journal.proofs.Rests.{rest_of, rests_whole_good}
use Rattle.cc_flush.specs.Engine.{Engine, IsSettled, StandsNow, IsSound, IsOwed}
use Rattle.cc_flush.specs.Commits.{LeadsTo}
use Rattle.cc_journal.specs.Outlet.{Puts}

lawful_events : (node : Node) (entries : List Entry) → AreLawful node entries → IsLawful node (events_in entries)
lawful_events node [] lawful = tt
lawful_events node (entry ∷ entries) lawful = (lawful.0, lawful_events (step node entry.event) entries lawful.2)

pub lawful_after : (node start : Node) (events : List Event) (entries : List Entry) → node ≡ after start events → AreLawful node entries
    → IsLawful (after start events) (events_in entries)
lawful_after node start events entries is lawful = subst (λ (n : Node). IsLawful n (events_in entries)) is (lawful_events node entries lawful)

pub none_made : (start : Node) (sent told : List Output) → told ≡ sent → AllMade start [] (length sent) told
none_made start sent told same output has =
    absurd (nothing (subst (λ (l : List Output). Contains l output) (ap (drop (length sent)) same ∙ drop_all (length sent) sent (omega arith)) has))
  where
    nothing : Contains [] output → ⊥
    nothing has = omega (arith, has.1)

abbrev pub MayRead : {D : Type 0} → Ghosts D → Type 0
MayRead {D} s = (site : D) → s.honest site → (side : Side) → MayLeave (s.state site side) (s.state site side).bytes

pub to_side : (side : Side) (start : Node) (events : List Event) (durable opening : ℕ) (left : Contents) (told : List Output)
    → IsGood start events durable opening left told → IsGoodAt start events durable opening (left side) (left (other side)) told
to_side A start events durable opening left told good = good
to_side B start events durable opening left told good = good_other_way start events durable opening (left A) (left B) told good

-- a side with no unsynced change
pub settled_bytes : (s : SideState) → IsSettled s → (left : List ℕ) → MayLeave s left → left ≡ s.bytes
settled_bytes s is left may = settled_only s left (subst (λ (t : SideState). MayLeave t left) is may)

module _ (state : Side → SideState) (sent : List Output) (at : Position) (generation : ℕ) where
  module _ (start : Node) (events : List Event) (opening : ℕ) where
    pub resting : StandsNow state at generation (after start events) → AfterCrash state sent (IsGood start events (length events) opening)
        → IsAtRest state sent at generation start events opening
    resting stands good left told possible =
        (at_rest_is generation at.place start events opening (left at.side) (left (other at.side)) told).1 (
          to_side at.side start events (length events) opening left told (good left told possible),
          stands (left at.side) (left (other at.side)) (possible.each at.side) (possible.each (other at.side)),
        )

    pub good_now : IsAtRest state sent at generation start events opening → AfterCrash state sent (IsGood start events (length events) opening)
    good_now rest left told possible =
        rests_whole_good at generation start events opening (length events) left told (omega arith) (rest left told possible)

    pub stands_now : IsAtRest state sent at generation start events opening → StandsNow state at generation (after start events)
    stands_now rest bytes others may may_other = (rest_of state sent at generation start events opening rest bytes others may may_other).stands

  pub rests_there : (node : Node) → IsSettled (state (other at.side)) → 1 ≤ length (state (other at.side)).bytes → StandsNow state at generation node
      → IsAtRest state sent at generation node [] (length sent)
  rests_there node is there stands left told possible =
      let may = possible.each (other at.side) in
      record {
        other_there = subst (λ (l : List ℕ). 1 ≤ length l) (sym (settled_bytes (state (other at.side)) is (left (other at.side)) may)) there;
        stands = stands (left at.side) (left (other at.side)) (possible.each at.side) may;
        made = none_made node sent told possible.outlet;
      }

module _ {D : Type 0} (s : Ghosts D) where
  -- an engine that owes nothing stands for its twin
  stands_for : (e : Engine D) → IsSound s e → s.honest e.site → e.failed ≡ None → e.owes ≡ false
      → 1 ≤ length (s.state e.site (other e.at.side)).bytes → StandsNow (s.state e.site) e.at e.generation e.twin
  stands_for e sound h none idle there =
      subst (λ (l : List Entry). StandsNow (s.state e.site) e.at e.generation (after e.twin (events_in l))) (sound.idle idle) (sound.stands h none there)

  module _ (may_read : MayRead s) (e : Engine D) (sound : IsSound s e) (h : s.honest e.site) (start : Node) (events : List Event) (opening : ℕ)
      (good : IsGoodNow s e.site start events opening) where
    there : 1 ≤ length (s.state e.site (other e.at.side)).bytes
    there =
        let read = λ (side : Side). (s.state e.site side).bytes in
        let now = good read (s.sent e.site) (record { each = may_read e.site h; outlet = refl }) in
        (to_side e.at.side start events (length events) opening read (s.sent e.site) now).b_there

    rests_as : (node : Node) → node ≡ after start events → StandsNow (s.state e.site) e.at e.generation node
        → RestsNow s e.site e.at e.generation start events opening
    rests_as node is stands =
        resting (s.state e.site) (s.sent e.site) e.at e.generation start events opening
        (subst (StandsNow (s.state e.site) e.at e.generation) is stands) good

    pub rested : e.failed ≡ None → e.owes ≡ false → e.twin ≡ after start events → RestsNow s e.site e.at e.generation start events opening
    rested none idle is = rests_as e.twin is (stands_for e sound h none idle there)

    pub owed_rests : (entries : List Entry) → IsOwed e entries → (before : List Event) → events ≡ before ++ events_in entries
        → e.twin ≡ after start before → RestsNow s e.site e.at e.generation start events opening
    owed_rests entries owed before parts is =
        let more = events_in entries in
        rests_as (after e.twin more) (ap (λ (n : Node). after n more) is ∙ sym (after-append start before more) ∙ ap (after start) (sym parts))
        (subst (λ (l : List Entry). StandsNow (s.state e.site) e.at e.generation (after e.twin (events_in l))) owed.these
        (sound.stands h (sound.goes_on owed.owes) there))

  -- a batch is made durable
  module _ (old : Engine D) (entries : List Entry) (sound : IsSound s old) (h : s.honest old.site) (none : old.failed ≡ None) (idle : old.owes ≡ false)
      (lawful : AreLawful old.twin entries) where
    pub ready : MayRead s → (start : Node) (events : List Event) (opening : ℕ) → LeadsTo s old start events opening
        → RestsFor s (events_in entries) old.site old.at old.generation start events opening
    ready may_read start events opening led = record {
      rests = rested may_read old sound h start events opening led.good none idle led.twin;
      lawful = lawful_after old.twin start events entries led.twin lawful;
    }

    pub committed_stands : (site : D) (at : Position) → at.side ≡ old.at.side → s.state site (other old.at.side) ≡ s.state old.site (other old.at.side)
        → ((generation : ℕ) (start : Node) (events : List Event) (opening : ℕ) → RestsFor s (events_in entries) old.site old.at generation start events opening
        → RestsNow s site at generation start (events ++ events_in entries) opening)
        → 1 ≤ length (s.state site (other at.side)).bytes → StandsNow (s.state site) at old.generation (after old.twin (events_in entries))
    committed_stands site at same_side same_other on there =
        let sent = s.sent old.site in
        let was : 1 ≤ length (s.state old.site (other old.at.side)).bytes =
        subst (λ (t : SideState). 1 ≤ length t.bytes) same_other (subst (λ (side : Side). 1 ≤ length (s.state site (other side)).bytes) same_side there) in
        let stands = stands_for old sound h none idle was in
        stands_now (s.state site) (s.sent site) at old.generation old.twin (events_in entries) (length sent)
        (on old.generation old.twin [] (length sent) (record {
          rests = rests_there (s.state old.site) sent old.at old.generation old.twin (sound.other_settled h none) was stands;
          lawful = lawful_after old.twin old.twin [] entries refl lawful;
        }))

  -- from what led to an engine on
  abbrev pub BatchMoments : List Entry → D → Engine D → Type 0
  BatchMoments entries new e =
      e.owes ≡ false → AreLawful e.twin entries → s.honest e.site → e.failed ≡ None → KeepsGood s (LeadsTo s e) (events_in entries) e.site new

  pub batch_moments : (entries : List Entry) (new : D) (e : Engine D) → MayRead s → IsSound s e
      → (s.honest e.site → KeepsGood s (RestsFor s (events_in entries) e.site e.at e.generation) (events_in entries) e.site new) → BatchMoments entries new e
  batch_moments entries new e may_read sound run idle lawful h none start events opening led =
      run h start events opening (ready e entries sound h none idle lawful may_read start events opening led)

  module _ (old : Engine D) (site : D) (outputs : List Output) (sound : IsSound s old) (puts : Puts s outputs old.site site) where
    back : s.honest site → s.honest old.site
    back = puts.same_honest.1

    same : (P : (Side → SideState) → Type 0) → s.honest site → P (s.state old.site) → P (s.state site)
    same P h = subst P (sym (puts.same_state (back h)))

    pub sound_put : IsSound s (record old { site = site })
    sound_put = record {
      reaches = sound.reaches;
      within = λ h none. same (λ t. old.at.place + 1 ≤ length (t old.at.side).bytes) h (sound.within (back h) none);
      is_length = λ h none. same (λ t. old.used ≡ length (t old.at.side).bytes) h (sound.is_length (back h) none);
      goes_on = sound.goes_on;
      other_settled = λ h none. same (λ t. IsSettled (t (other old.at.side))) h (sound.other_settled (back h) none);
      idle = sound.idle;
      lawful = sound.lawful;
      stands = λ h none there.
          same (λ t. 1 ≤ length (t (other old.at.side)).bytes → StandsNow t old.at old.generation (after old.twin (events_in old.owed))) h
          (sound.stands (back h) none) there;
    }

    pub sound_released : (entries : List Entry) → IsOwed old entries
        → IsSound s (record old { site = site; twin = after old.twin (events_in entries); owes = false; owed = [] })
    sound_released entries owed = record {
      reaches = sound.reaches;
      within = sound_put.within;
      is_length = sound_put.is_length;
      goes_on = λ is. absurd cc;
      other_settled = sound_put.other_settled;
      idle = λ _. refl;
      lawful = tt;
      stands = λ h none there.
          subst (λ (l : List Entry). StandsNow (s.state site) old.at old.generation (after old.twin (events_in l))) owed.these (sound_put.stands h none there);
    }
