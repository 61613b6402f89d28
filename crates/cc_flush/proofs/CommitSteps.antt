-- How a batch goes through an engine.
--     good_less               a good moment is good for fewer durable events
--     in_use_is               which side is in use, and under which generation
--     leads_good              as long as nothing is put, what led to the sides led to a good moment
--     call_keeps_sides        so where each moment of a call is good, its sides are
--     Written, Released       what making it durable ensures, and what putting its outputs does
--     flushed                 both, one after the other
use Rattle.std.proofs.Common.{◌≡◌, ℕ, ◌≤◌, List, [], ◌++◌, length, refl, sym, subst, ◌∙◌, ap, arith, append-nil, length-append}
use Rattle.std.specs.Prelude.{◌↔◌, false, None}
use Rattle.cc_messages.specs.declared.event.Event.{Event}
use Rattle.cc_messages.specs.declared.output.Output.{Output}
use Rattle.cc_site.specs.declared.site.Side.{Side}
use Rattle.cc_site.specs.declared.site.Side.TheVariants.{A, B}
use Rattle.cc_site.specs.declared.site.Site.{Ghosts}
use Rattle.cc_site.specs.Sides.{SideState}
use Rattle.cc_site.specs.Moments.{Contents}
use Rattle.cc_site.specs.Runs.{joined, weaker}
use Rattle.cc_node.specs.Node.{Node, after, line}
use Rattle.cc_node_state.specs.GoodLaws.{good_for_more}
use Rattle.cc_node.specs.Histories.{after-append}
use Rattle.cc_journal.specs.declared.entry.Entry.{Entry}
use Rattle.cc_journal.specs.Batches.{events_in}
use Rattle.cc_journal.specs.GoodSides.{MayBeLeft, HasGoodSides, HasGoodSidesNow, EachLeaves, KeepsSides}
use Rattle.cc_journal.specs.GoodSideLaws.{fewer_sides, good_from, sides_now, sides_kept}
use Rattle.cc_journal.specs.Journals.{Position, IsGood, IsGoodNow, KeepsGood, StaysGood}
use Rattle.cc_flush.specs.Engine.{Engine, in_use_of}
use Rattle.cc_flush.specs.Commits.{LeadsTo, LeadsToOwed, LeadsToSides, Flushes}

pub both_ways : {P Q R : Type 0} → P ↔ Q → Q ↔ R → P ↔ R
both_ways first then = (λ p. then.0 (first.0 p), λ r. first.1 (then.1 r))

pub good_less : (start : Node) (events : List Event) (durable less opening : ℕ) (left : Contents) (told : List Output) → less ≤ durable
    → IsGood start events durable opening left told → IsGood start events less opening left told
good_less start events durable less opening left told least good =
    subst (λ (l : List Event). IsGood start l less opening left told) (append-nil events)
    (good_for_more start events [] durable less opening (left A) (left B) told least good)

pub in_use_is : {D : Type 0} (e : Engine D) (side : Side) (generation : ℕ) → e.at.side ≡ side → e.generation ≡ generation
    → in_use_of e ≡ record { side = side; generation = generation }
in_use_is e side generation at is = λ i. record { side = at i; generation = is i }

module _ {D : Type 0} (s : Ghosts D) where
  pub leads_good : (e : Engine D) (start : Node) (events : List Event) → LeadsToSides s e start events → LeadsTo s e start events (length (s.sent e.site))
  leads_good e start events was = record { twin = was.twin; good = good_from s e.site start events was.sides }

  pub call_keeps_sides : (old : Engine D) (more : List Event) (new : D) → KeepsGood s (LeadsTo s old) more old.site new
      → KeepsSides s (LeadsToSides s old) more old.site new
  call_keeps_sides old more new keeps start events was =
      let opening = length (s.sent old.site) in
      sides_kept s old.site new start (events ++ more) (length events) opening (keeps start events opening (leads_good old start events was))

  pub record Written (batch : List Entry) (old mid : Engine D) : Type 0 where
    pub same_twin : mid.twin ≡ old.twin
    pub goes_on : mid.failed ≡ None
    pub same_side : mid.at.side ≡ old.at.side
    pub same_generation : mid.generation ≡ old.generation
    pub same_honest : s.honest old.site ↔ s.honest mid.site
    pub same_told : (s.tells old.site ↔ s.tells mid.site) × (s.sent mid.site ≡ s.sent old.site)
    pub same_failures : s.failures mid.site ≡ s.failures old.site
    pub every_moment : s.honest old.site → old.failed ≡ None → KeepsGood s (LeadsTo s old) (events_in batch) old.site mid.site
    pub at_rest : s.honest old.site → old.failed ≡ None → (start : Node) (events : List Event) (opening : ℕ) → LeadsTo s old start events opening
        → IsGoodNow s mid.site start (events ++ events_in batch) opening

  pub record Released (batch : List Entry) (mid new : Engine D) : Type 0 where
    pub twin : new.twin ≡ after mid.twin (events_in batch)
    pub owes : new.owes ≡ false
    pub goes_on : new.failed ≡ mid.failed
    pub at : new.at ≡ mid.at
    pub same_generation : new.generation ≡ mid.generation
    pub same_honest : s.honest mid.site ↔ s.honest new.site
    pub told : s.tells new.site → s.tells mid.site × (s.sent new.site ≡ s.sent mid.site ++ line mid.twin (events_in batch))
    pub same_failures : s.failures new.site ≡ s.failures mid.site
    pub same_sides : s.honest mid.site → s.state new.site ≡ s.state mid.site
    pub contents : s.honest mid.site → EachLeaves s (MayBeLeft (s.state mid.site)) mid.site new.site
    pub good : s.honest mid.site → s.tells new.site → StaysGood s (LeadsToOwed s batch mid) mid.site new.site

  module _ (old mid new : Engine D) (batch : List Entry) (none : old.failed ≡ None) (first : Written batch old mid) (then : Released batch mid new) where
    abbrev more : List Event
    more = events_in batch

    abbrev all : List Event → List Event
    all events = events ++ more

    owed : s.honest old.site → (start : Node) (events : List Event) (opening : ℕ) → LeadsTo s old start events opening
        → LeadsToOwed s batch mid start (all events) opening
    owed h start events opening led = record {
      before = events;
      parts = refl;
      twin = first.same_twin ∙ led.twin;
      good = first.at_rest h none start events opening led;
    }

    mid_sides : s.honest old.site → (start : Node) (events : List Event) → LeadsToSides s old start events → HasGoodSidesNow s mid.site start (all events)
    mid_sides h start events was =
        let opening = length (s.sent old.site) in
        sides_now s mid.site start (all events) opening (first.at_rest h none start events opening (leads_good old start events was))

    shorter : (events : List Event) → length events ≤ length (all events)
    shorter events = omega (arith, length-append events more)

    -- the node is that after all events, where it was that after the first of them
    leads_on : (start : Node) (events : List Event) → old.twin ≡ after start events → new.twin ≡ after start (all events)
    leads_on start events was = then.twin ∙ ap (λ (n : Node). after n more) (first.same_twin ∙ was) ∙ sym (after-append start events more)

    pub flushed : Flushes s batch old new
    flushed = record {
      twin = then.twin ∙ ap (λ (n : Node). after n more) first.same_twin;
      owes = then.owes;
      goes_on = then.goes_on ∙ first.goes_on;
      in_use = in_use_is new old.at.side old.generation (ap (λ (at : Position). at.side) then.at ∙ first.same_side)
          (then.same_generation ∙ first.same_generation);
      same_honest = both_ways first.same_honest then.same_honest;
      told = λ t.
          let late = then.told t in
          let outputs = ap (λ (l : List Output). l ++ line mid.twin more) first.same_told.1 in
          (first.same_told.0.1 late.0, late.1 ∙ outputs ∙ ap (λ (n : Node). s.sent old.site ++ line n more) first.same_twin);
      moments = λ h t start events opening led.
          joined s old.site mid.site new.site (IsGood start (all events) (length events) opening) (first.every_moment h none start events opening led)
          (weaker s mid.site new.site (IsGood start (all events) (length (all events)) opening) (IsGood start (all events) (length events) opening)
          ((then.good (first.same_honest.0 h) t).moments start (all events) opening (owed h start events opening led))
          (λ left told. good_less start (all events) (length (all events)) (length events) opening left told (shorter events)));
      afterwards = λ h t start events opening led. record {
        twin = leads_on start events led.twin;
        good = (then.good (first.same_honest.0 h) t).afterwards start (all events) opening (owed h start events opening led);
      };
      sides = λ h start events was.
          joined s old.site mid.site new.site (λ left told. HasGoodSides start (all events) (length events) left)
          (call_keeps_sides old more mid.site (first.every_moment h none) start events was)
          (weaker s mid.site new.site (λ left told. MayBeLeft (s.state mid.site) left) (λ left told. HasGoodSides start (all events) (length events) left)
          (then.contents (first.same_honest.0 h)) (λ left told may.
          fewer_sides start (all events) (length (all events)) (length events) left (shorter events) (mid_sides h start events was left may)));
      sides_afterwards = λ h start events was. record {
        twin = leads_on start events was.twin;
        sides = λ left may. mid_sides h start events was left
            (subst (λ (t : Side → SideState). MayBeLeft t left) (then.same_sides (first.same_honest.0 h)) may);
      };
      same_failures = then.same_failures ∙ first.same_failures;
    }
