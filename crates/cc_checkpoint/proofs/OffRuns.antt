-- Runs of calls on a side that isn't in use, while the other one holds the node.
--     rest_after, then_off     it holds it still behind such a run, and through two of them
--     reads_off                through calls that only read
--     closing_off, closed_off  while the open gate of this side is closed, and behind reading it
--     armed_there, good_from   an armed side has a byte;  the moment is good, from whichever side it is seen
--     arming_good, armed_rest  while this side's gate is opened both stand for the node, and then this side holds it
use Rattle.std.proofs.Common.{◌≡◌, ℕ, ◌≤◌, List, [], ◌∷◌, length, take, set, get_or, get_or-take, refl, sym, ◌∙◌, ap, subst, inl, inr, arith}
use Rattle.std.proofs.lemmas.Bool.{cases_eq}
use Rattle.std.proofs.lemmas.List.{length-set}
use Rattle.cc_messages.specs.declared.event.Event.{Event}
use Rattle.cc_messages.specs.declared.output.Output.{Output}
use Rattle.cc_site.specs.declared.site.Side.{Side}
use Rattle.cc_site.specs.declared.site.Side.TheVariants.{A, B}
use Rattle.cc_site.specs.declared.site.Site.{Ghosts}
use Rattle.cc_site.specs.Sides.{SideState, MayLeave, other, touch, written, settled, durable}
use Rattle.cc_site.specs.SideLaws.{other_other, durable_only, firm-touch}
use Rattle.cc_site.specs.FrontLaws.{restored}
use Rattle.cc_site.specs.Moments.{Contents, Within}
use Rattle.cc_site.specs.Gates.{gate_written}
use Rattle.cc_site.specs.Reads.{OnlyReads, read_each}
use Rattle.cc_site.specs.Runs.{EachMoment, OnlyNow, CountsNow, joined, weaker, now_has}
use Rattle.cc_site.specs.Crashes.{after_crash_of}
use Rattle.cc_node.specs.Node.{Node, after}
use Rattle.cc_node_state.specs.Sides.{OPEN, IsArmed, Yields}
use Rattle.cc_node_state.specs.Fronts.{generation_held}
use Rattle.cc_node_state.specs.Good.{AllMade, IsGoodAt, RestsAt}
use Rattle.cc_node_state.specs.GoodLaws.{good_other_way, whole_good}
use Rattle.cc_checkpoint.specs.Images.{image_holds}
use Rattle.cc_checkpoint.specs.Checkpoints.{image_of, RestsOff, RestsOn, KeepsOff, ArmsFor, IsGoodForAll}

pub armed_there : (bytes : List ℕ) → IsArmed bytes → 1 ≤ length bytes
armed_there [] is = absurd cc
armed_there (b ∷ bytes) is = omega arith

-- with its gate open it yields, so it does with any other byte there
yields_changed : (bytes : List ℕ) (generation : ℕ) → 1 ≤ length bytes → Yields (set bytes 0 OPEN) generation → Yields bytes generation
yields_changed [] generation some yields = absurd (omega (arith, some))
yields_changed (b ∷ bytes) generation some yields = elim (cases_eq b OPEN) [
  | inl is ↦ subst (λ (c : ℕ). Yields (c ∷ bytes) generation) (sym is) yields
  | inr not ↦ inl not
]

-- a gate that was read open
gate_opened : (gate bytes : List ℕ) (new old : SideState)
    → gate ≡ take 1 bytes → get_or gate 0 0 ≡ OPEN → new ≡ record old { bytes = bytes } → IsArmed new.bytes
gate_opened gate bytes new old read opened is =
    ap (λ (s : SideState). get_or s.bytes 0 0) is
    ∙ sym (get_or-take 1 bytes 0 0 (omega arith))
    ∙ ap (λ (l : List ℕ). get_or l 0 0) (sym read)
    ∙ opened

module _ {D : Type 0} (s : Ghosts D) (side : Side) where
  pub rest_after : (old new : D) → KeepsOff s side old new → CountsNow s new
      → (generation place : ℕ) (start : Node) (events : List Event) (opening : ℕ)
      → RestsOn s old (other side) generation place start events opening → RestsOn s new (other side) generation place start events opening
  rest_after old new keeps counts generation place start events opening rest =
      now_has s old new (RestsOff side generation place start events opening) (keeps generation place start events opening rest) counts

  pub then_off : (old mid new : D) → KeepsOff s side old mid → CountsNow s mid → KeepsOff s side mid new → KeepsOff s side old new
  then_off old mid new first counts second generation place start events opening rest =
      joined s old mid new (RestsOff side generation place start events opening) (first generation place start events opening rest)
      (second generation place start events opening (rest_after old mid first counts generation place start events opening rest))

  pub reads_off : (old new : D) → s.honest old → OnlyNow s old → OnlyReads s old new → KeepsOff s side old new
  reads_off old new honest only reads generation place start events opening rest =
      read_each s old new (RestsOff side generation place start events opening) reads honest (λ left told since. rest left told (only left told since))

  pub closing_off : (old new : D) → IsArmed (s.state old side).bytes
      → EachMoment s old new (Within side (touch (s.state old side) 0 1) (s.state old) (s.sent old)) → KeepsOff s side old new
  closing_off old new opened run generation place start events opening rest =
      weaker s old new (Within side (touch (s.state old side) 0 1) (s.state old) (s.sent old)) (RestsOff side generation place start events opening) run
      holds
    where
      holds : (left : Contents) (told : List Output) → Within side (touch (s.state old side) 0 1) (s.state old) (s.sent old) left told
          → RestsOff side generation place start events opening left told
      holds left told within =
          let there = armed_there (s.state old side).bytes opened in
          let was = set (left side) 0 OPEN in
          let possible : MayLeave (s.state old side) was =
          subst (λ (b : ℕ). MayLeave (s.state old side) (set (left side) 0 b)) opened (restored (s.state old side) 0 there (left side) within.this) in
          let before : RestsAt generation place start events opening (left (other side)) was (s.sent old) =
          after_crash_of (s.state old) (s.sent old) (other side) (RestsAt generation place start events opening) rest (left (other side)) was within.rest
          (subst (λ (at : Side). MayLeave (s.state old at) was) (sym (other_other side)) possible) in
          let some : 1 ≤ length (left side) = omega (arith, before.other_there, length-set (left side) 0 OPEN) in
          subst (λ (at : Side). RestsAt generation place start events opening (left (other side)) (left at) told) (sym (other_other side))
          (record {
            other_there = some;
            stands = record { holds = before.stands.holds; yields = yields_changed (left side) generation some before.stands.yields };
            made = subst (AllMade start events opening) (sym within.outlet) before.made;
          })

  -- through calls that read its open gate, and then close it
  pub closed_off : (old mid new : D) (gate : List ℕ) → s.honest old → OnlyNow s old → CountsNow s mid → OnlyReads s old mid
      → gate ≡ take 1 (s.state old side).bytes → get_or gate 0 0 ≡ OPEN
      → EachMoment s mid new (Within side (touch (s.state mid side) 0 1) (s.state mid) (s.sent mid)) → KeepsOff s side old new
  closed_off old mid new gate honest only counts reads read opened run =
      then_off old mid new (reads_off old mid honest only reads) counts
      (closing_off mid new
      (gate_opened gate (s.state old side).bytes (s.state mid side) (s.state old side) read opened
      (ap (λ (state : Side → SideState). state side) (reads.keeps_state honest))) run)

-- ---- a side that was filled is armed

-- the moment is good, from whichever side it is seen
pub good_from : (side : Side) (start : Node) (events : List Event) (opening : ℕ) (left : Contents) (told : List Output)
    → IsGoodAt start events (length events) opening (left side) (left (other side)) told
    → IsGoodAt start events (length events) opening (left A) (left B) told
good_from A start events opening left told good = good
good_from B start events opening left told good = good_other_way start events (length events) opening (left B) (left A) told good

module _ {D : Type 0} (s : Ghosts D) (side : Side) (old : D) (next : ℕ) (start : Node) (events : List Event) (opening : ℕ)
    (arms : ArmsFor s side old next start events opening) where
  -- what stands behind its gate
  abbrev image : List ℕ
  image = image_of next (after start events)

  -- this side is in use beside the other one, with these bytes
  abbrev IsArmedBeside : List ℕ → List ℕ → List Output → Type 0
  IsArmedBeside = RestsAt next (length image) start events opening

  -- what is possible on the other side, beside what is possible on this one
  rest_of : (others : List ℕ) → MayLeave (s.state old (other side)) others
      → RestsAt arms.generation arms.place start events opening others (arms.filled.gate ∷ image) (s.sent old)
  rest_of others may =
      after_crash_of (s.state old) (s.sent old) (other side) (RestsAt arms.generation arms.place start events opening) arms.rests
      others (arms.filled.gate ∷ image) may
      (subst (λ (at : Side). MayLeave (s.state old at) (arms.filled.gate ∷ image)) (sym (other_other side))
      (subst (λ (state : SideState). MayLeave state (arms.filled.gate ∷ image)) (sym arms.filled.is)
      (record { no_shorter = omega arith; no_longer = λ _. refl; same = λ p below clean. refl })))

  -- this side holds the node, and the other one yields
  rests_armed : (others : List ℕ) → MayLeave (s.state old (other side)) others → (told : List Output) → told ≡ s.sent old
      → IsArmedBeside (OPEN ∷ image) others told
  rests_armed others may told outlet =
      let before = rest_of others may in
      let held = generation_held others arms.generation (after start events) arms.place before.stands.holds in
      record {
        other_there = omega (arith, held.0);
        stands = record {
          holds = image_holds image next (after start events) arms.filled.spelled;
          yields = inr (held.0, omega (arith, held.1, held.2), omega (arith, held.2, arms.above));
        };
        made = subst (AllMade start events opening) (sym outlet) before.made;
      }

  pub arming_good : (left : Contents) (told : List Output) → Within side (touch (s.state old side) 0 1) (s.state old) (s.sent old) left told
      → IsGoodForAll start events opening left told
  arming_good left told within =
      elim (gate_written arms.filled.gate image (left side)
      (subst (λ (state : SideState). MayLeave (touch state 0 1) (left side)) arms.filled.is within.this)) [
        | inl shut ↦
            let before = rest_of (left (other side)) within.rest in
            good_from side start events opening left told
            (good_other_way start events (length events) opening (left (other side)) (left side) told
            (whole_good arms.generation arms.place start events opening (left (other side)) (left side) told
            (record {
              other_there = touched_there (left side) within.this;
              stands = record { holds = before.stands.holds; yields = inl shut };
              made = subst (AllMade start events opening) (sym within.outlet) before.made;
            }) (length events) (omega arith)))
        | inr opened ↦
            good_from side start events opening left told
            (whole_good next (length image) start events opening (left side) (left (other side)) told
            (subst (λ (l : List ℕ). IsArmedBeside l (left (other side)) told) (sym opened)
            (rests_armed (left (other side)) within.rest told within.outlet)) (length events) (omega arith))
      ]
    where
      touched_there : (bytes : List ℕ) → MayLeave (touch (s.state old side) 0 1) bytes → 1 ≤ length bytes
      touched_there bytes may =
          let all = durable (arms.filled.gate ∷ image) in
          let is : MayLeave (touch all 0 1) bytes = subst (λ (state : SideState). MayLeave (touch state 0 1) bytes) arms.filled.is may in
          omega (arith, is.no_shorter, firm-touch all 0 1)

  pub armed_rest : (new : D) → s.state new side ≡ settled (written (s.state old side) 0 (OPEN ∷ []))
      → s.state new (other side) ≡ s.state old (other side) → s.sent new ≡ s.sent old
      → RestsOn s new side next (length image) start events opening
  armed_rest new opened same outlet left told possible =
      let whole : s.state new side ≡ durable (OPEN ∷ image) =
      opened ∙ ap (λ (state : SideState). settled (written state 0 (OPEN ∷ []))) arms.filled.is in
      let now : left side ≡ OPEN ∷ image =
      durable_only (OPEN ∷ image) (left side) (subst (λ (state : SideState). MayLeave state (left side)) whole (possible.each side)) in
      let others = subst (λ (state : SideState). MayLeave state (left (other side))) same (possible.each (other side)) in
      subst (λ (l : List ℕ). IsArmedBeside l (left (other side)) told) (sym now)
      (rests_armed (left (other side)) others told (possible.outlet ∙ outlet))
