-- What is good stays good.
--     other_way                           two sides stand for a node, whichever is named first
--     rests_good, more_good, whole_good   where all events are durable, the moment is good, for more events too
--     good_for_more                       what is good is so for more events, and for fewer durable ones
--     at_rest_is                          to rest is to be good with all events durable, at that generation and place
--     shut_side                           what lies behind the closed gate of a side has no part in it
use Rattle.std.proofs.Common.{◌≡◌, inl, inr, ℕ, ◌≤◌, List, ◌++◌, length, take, refl, sym, subst, arith, length-append}
use Rattle.std.proofs.lemmas.List.{take_at, take_all, take-append-le}
use Rattle.std.specs.Prelude.{◌↔◌}
use Rattle.cc_messages.specs.declared.event.Event.{Event}
use Rattle.cc_messages.specs.declared.output.Output.{Output}
use Rattle.cc_node.specs.Node.{Node, after, MayBeOut}
use Rattle.cc_node_state.specs.Sides.{IsArmed, StandsAt, Stands}
use Rattle.cc_node_state.specs.Good.{AllMade, IsGoodAt, RestsAt}
use Rattle.cc_node_state.specs.Fronts.{holds_within, held_armed}

pub other_way : (a b : List ℕ) (n : Node) → Stands a b n → Stands b a n
other_way a b n (inl first) = inr first
other_way a b n (inr second) = inl second

pub good_other_way : (start : Node) (events : List Event) (durable opening : ℕ) (a b : List ℕ) (told : List Output)
    → IsGoodAt start events durable opening a b told → IsGoodAt start events durable opening b a told
good_other_way start events durable opening a b told good = record {
  a_there = good.b_there;
  b_there = good.a_there;
  prefix = good.prefix;
  has_durable = good.has_durable;
  within = good.within;
  stands = other_way a b (after start (take good.prefix events)) good.stands;
  made = good.made;
}

module _ (generation place : ℕ) (start : Node) (events : List Event) (opening : ℕ) (a b : List ℕ) (told : List Output)
    (rests : RestsAt generation place start events opening a b told) where
  pub rests_good : (all : List Event) (durable : ℕ) → durable ≤ length events → length events ≤ length all → take (length events) all ≡ events
      → IsGoodAt start all durable opening a b told
  rests_good all durable least most front = record {
    a_there = omega (arith, holds_within a generation (after start events) place rests.stands.holds);
    b_there = rests.other_there;
    prefix = length events;
    has_durable = least;
    within = most;
    stands = inl (record {
      generation = generation;
      place = place;
      at = subst (λ (l : List Event). StandsAt a b generation place (after start l)) (sym front) rests.stands;
    });
    made = λ output has. subst (λ (l : List Event). MayBeOut start l output) (sym front) (rests.made output has);
  }

  pub more_good : (more : List Event) → IsGoodAt start (events ++ more) (length events) opening a b told
  more_good more = rests_good (events ++ more) (length events) (omega arith) (omega (arith, length-append events more))
      (take_at events more (length events) refl)

  pub whole_good : (durable : ℕ) → durable ≤ length events → IsGoodAt start events durable opening a b told
  whole_good durable least = rests_good events durable least (omega arith) (take_all (length events) events (omega arith))

pub good_for_more : (start : Node) (events more : List Event) (durable less opening : ℕ) (a b : List ℕ) (told : List Output) → less ≤ durable
    → IsGoodAt start events durable opening a b told → IsGoodAt start (events ++ more) less opening a b told
good_for_more start events more durable less opening a b told least good =
    let front : take good.prefix (events ++ more) ≡ take good.prefix events = take-append-le good.prefix events more good.within in
    record {
      a_there = good.a_there;
      b_there = good.b_there;
      prefix = good.prefix;
      has_durable = omega (arith, good.has_durable);
      within = omega (arith, good.within, length-append events more);
      stands = subst (λ (l : List Event). Stands a b (after start l)) (sym front) good.stands;
      made = subst (λ (l : List Event). AllMade start l opening told) (sym front) good.made;
    }

pub at_rest_is : (generation place : ℕ) (start : Node) (events : List Event) (opening : ℕ) (a b : List ℕ) (told : List Output)
    → RestsAt generation place start events opening a b told ↔ (IsGoodAt start events (length events) opening a b told
    × StandsAt a b generation place (after start events))
at_rest_is generation place start events opening a b told = (
  λ rests. (whole_good generation place start events opening a b told rests (length events) (omega arith), rests.stands),
  λ both. record {
    other_there = both.0.b_there;
    stands = both.1;
    made = subst (λ (l : List Event). AllMade start l opening told) (take_all both.0.prefix events both.0.has_durable) both.0.made;
  },
)

module _ (a b changed : List ℕ) (unarmed : ¬ IsArmed a) (still : ¬ IsArmed changed) where
  stands_changed : (n : Node) → Stands a b n → Stands changed b n
  stands_changed n (inl first) = absurd (unarmed (held_armed a first.generation n first.place first.at.holds))
  stands_changed n (inr second) = inr (record {
    generation = second.generation;
    place = second.place;
    at = record { holds = second.at.holds; yields = inl still };
  })

  pub shut_side : (start : Node) (events : List Event) (durable opening : ℕ) (told : List Output) → 1 ≤ length changed
      → IsGoodAt start events durable opening a b told → IsGoodAt start events durable opening changed b told
  shut_side start events durable opening told there good = record {
    a_there = there;
    b_there = good.b_there;
    prefix = good.prefix;
    has_durable = good.has_durable;
    within = good.within;
    stands = stands_changed (after start (take good.prefix events)) good.stands;
    made = good.made;
  }
