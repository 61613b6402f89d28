-- A journal at rest, while its next record is written and while the gate is opened.
--     rests_more_good, rests_whole_good     a moment at which it rests is good, for more events, and with fewer durable
--     rest_of, behind_rests                 what a crash leaves of it;  and while something is written behind the closed gate
--     IsReady                               a batch stands behind the gate of a side of which all was made sure
--     opened_rests, gate_good               so it rests with that gate open, and is good while the gate is written
use Rattle.std.proofs.Common.{◌≡◌, inl, inr, ℕ, ◌+◌, ◌<◌, ◌≤◌, List, ◌++◌, length, drop, set, slice_index, sym, ◌∙◌, ap, subst, arith, length-append}
use Rattle.std.specs.List.{Contains}
use Rattle.std.proofs.lemmas.Bool.{cases_eq}
use Rattle.cc_messages.specs.declared.event.Event.{Event}
use Rattle.cc_messages.specs.declared.output.Output.{Output}
use Rattle.cc_site.specs.declared.site.Side.{Side}
use Rattle.cc_site.specs.declared.site.Side.TheVariants.{A, B}
use Rattle.cc_site.specs.Sides.{SideState, MayLeave, other, touch}
use Rattle.cc_site.specs.Moments.{Contents, Within}
use Rattle.cc_site.specs.Crashes.{after_crash_of}
use Rattle.cc_site.specs.FrontLaws.{touch_keeps, restored}
use Rattle.cc_node.specs.Node.{Node, after, IsLawful}
use Rattle.cc_node_state.specs.Sides.{OPEN, Holds, SpellsBatch, StandsBehind}
use Rattle.cc_node_state.specs.Good.{IsGoodAt, RestsAt, AllMade}
use Rattle.cc_node.specs.Histories.{after-append, made_more}
use Rattle.cc_node_state.specs.Fronts.{holds_within, holds_kept, holds_closed, holds_opened, one_byte}
use Rattle.cc_node_state.specs.GoodLaws.{good_other_way, more_good, whole_good}
use Rattle.cc_journal.specs.Journals.{Position, IsGood, Rests, IsAtRest}

-- what is good of a side and the other one is good
of_side : (side : Side) (start : Node) (events : List Event) (durable opening : ℕ) (left : Contents) (told : List Output)
    → IsGoodAt start events durable opening (left side) (left (other side)) told → IsGood start events durable opening left told
of_side A start events durable opening left told good = good
of_side B start events durable opening left told good = good_other_way start events durable opening (left B) (left A) told good

pub rests_more_good : (at : Position) (generation : ℕ) (start : Node) (events : List Event) (opening : ℕ) (more : List Event) (left : Contents)
    (told : List Output) → Rests at generation start events opening left told → IsGood start (events ++ more) (length events) opening left told
rests_more_good at generation start events opening more left told rests = of_side at.side start (events ++ more) (length events) opening left told
    (more_good generation at.place start events opening (left at.side) (left (other at.side)) told rests more)

pub rests_whole_good : (at : Position) (generation : ℕ) (start : Node) (events : List Event) (opening durable : ℕ) (left : Contents)
    (told : List Output) → durable ≤ length events → Rests at generation start events opening left told → IsGood start events durable opening left told
rests_whole_good at generation start events opening durable left told least rests = of_side at.side start events durable opening left told
    (whole_good generation at.place start events opening (left at.side) (left (other at.side)) told rests durable least)

-- a batch stands behind the closed gate at `place` of this side, and all of the side was made sure of
pub record IsReady (side : SideState) (place : ℕ) (written : List ℕ) (batch : List Event) : Type 0 where
  pub only : (c : List ℕ) → MayLeave side c → c ≡ side.bytes
  pub read : MayLeave side side.bytes
  pub spelled : SpellsBatch written batch
  pub standing : StandsBehind side.bytes place written

module _ (state : Side → SideState) (sent : List Output) (at : Position) (generation : ℕ) (start : Node) (events : List Event) (opening : ℕ)
    (rest : IsAtRest state sent at generation start events opening) where
  pub rest_of : (x y : List ℕ) → MayLeave (state at.side) x → MayLeave (state (other at.side)) y → RestsAt generation at.place start events opening x y sent
  rest_of = after_crash_of state sent at.side (λ x y told. RestsAt generation at.place start events opening x y told) rest

  -- other bytes of the side that hold the same node
  still_rests : (x y c : List ℕ) (told : List Output) → RestsAt generation at.place start events opening x y sent → told ≡ sent
      → Holds c generation (after start events) at.place → RestsAt generation at.place start events opening c y told
  still_rests x y c told was same holds = record {
    other_there = was.other_there;
    stands = record { holds = holds; yields = was.stands.yields };
    made = subst (AllMade start events opening) (sym same) was.made;
  }

  -- a write behind the closed gate of the side in use
  pub behind_rests : (n : ℕ) → at.place + 1 ≤ length (state at.side).bytes → (left : Contents) (told : List Output)
      → Within at.side (touch (state at.side) (at.place + 1) n) state sent left told → Rests at generation start events opening left told
  behind_rests n fits left told within =
      let before = (touch_keeps (state at.side) (at.place + 1) (at.place + 1) n (omega arith) fits).from (left at.side) within.this in
      let was = rest_of before.0 (left (other at.side)) before.1 within.rest in
      still_rests before.0 (left (other at.side)) (left at.side) told was within.outlet
      (holds_kept before.0 generation (after start events) at.place was.stands.holds (left at.side) before.2)

  -- the gate is being opened, over a side that a sync has made sure of
  module _ (written : List ℕ) (batch : List Event) (ready : IsReady (state at.side) at.place written batch) (lawful : IsLawful (after start events) batch) where
    abbrev bytes : List ℕ
    bytes = (state at.side).bytes

    -- with it open
    pub opened_rests : (y : List ℕ) (told : List Output) → MayLeave (state (other at.side)) y → told ≡ sent
        → RestsAt generation (at.place + length written) start (events ++ batch) opening (set bytes at.place OPEN) y told
    opened_rests y told may_y same =
        let was = rest_of bytes y ready.read may_y in
        record {
          other_there = was.other_there;
          stands = record {
            holds = subst (λ (n : Node). Holds (set bytes at.place OPEN) generation n (at.place + length written)) (sym (after-append start events batch))
                (holds_opened bytes generation (after start events) at.place was.stands.holds written batch ready.spelled ready.standing lawful);
            yields = was.stands.yields;
          };
          made = λ output has.
              made_more start events batch output (was.made output (subst (λ (l : List Output). Contains (drop opening l) output) same has));
        }

    -- while it is written
    pub gate_good : (left : Contents) (told : List Output) → Within at.side (touch (state at.side) at.place 1) state sent left told
        → IsGood start (events ++ batch) (length events) opening left told
    gate_good left told within =
        let y = left (other at.side) in
        let was = rest_of bytes y ready.read within.rest in
        let inside : at.place < length bytes = omega (arith, holds_within bytes generation (after start events) at.place was.stands.holds) in
        let byte = slice_index (left at.side) at.place in
        let now : left at.side ≡ set bytes at.place byte =
        one_byte bytes (left at.side) at.place (ready.only _ (restored (state at.side) at.place inside (left at.side) within.this)) in
        elim (cases_eq byte OPEN) [
          | inl opened ↦
              rests_whole_good (record { side = at.side; place = at.place + length written }) generation start (events ++ batch) opening (length events)
              left told (omega (arith, length-append events batch))
              (subst (λ (l : List ℕ). RestsAt generation (at.place + length written) start (events ++ batch) opening l y told)
              (ap (λ (b : ℕ). set bytes at.place b) (sym opened) ∙ sym now) (opened_rests y told within.rest within.outlet))
          | inr closed ↦
              rests_more_good at generation start events opening batch left told (still_rests bytes y (left at.side) told was within.outlet
              (subst (λ (l : List ℕ). Holds l generation (after start events) at.place) (sym now)
              (holds_closed bytes generation (after start events) at.place was.stands.holds byte closed)))
        ]
