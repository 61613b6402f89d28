-- What follows for good sides.
--     good_parts                  a moment is good just where the sides are, and what was sent was made in that prefix
--     more_sides, fewer_sides     they stay so for more events, and for fewer durable ones
--     good_from, sides_now        with the outputs up to now left out, good sides make a good moment;  and that has good sides
--     sides_kept                  so has each moment of a run
use Rattle.std.proofs.Common.{◌≡◌, ℕ, ◌≤◌, List, [], ◌++◌, length, take, refl, sym, subst, arith, length-append}
use Rattle.std.specs.Prelude.{◌↔◌}
use Rattle.std.specs.List.{Contains}
use Rattle.std.proofs.lemmas.List.{drop_all, take-append-le}
use Rattle.cc_messages.specs.declared.event.Event.{Event}
use Rattle.cc_messages.specs.declared.output.Output.{Output}
use Rattle.cc_site.specs.declared.site.Side.TheVariants.{A, B}
use Rattle.cc_site.specs.declared.site.Site.{Ghosts}
use Rattle.cc_site.specs.Moments.{Contents}
use Rattle.cc_site.specs.Runs.{EachMoment, weaker}
use Rattle.cc_node.specs.Node.{Node, after}
use Rattle.cc_node_state.specs.Sides.{Stands}
use Rattle.cc_node_state.specs.Good.{AllMade}
use Rattle.cc_journal.specs.Journals.{IsGood, IsGoodNow}
use Rattle.cc_journal.specs.GoodSides.{HasGoodSides, HasGoodSidesNow, EachLeaves}

pub good_parts : (start : Node) (events : List Event) (durable opening : ℕ) (left : Contents) (told : List Output)
    → IsGood start events durable opening left told ↔ ((sides : HasGoodSides start events durable left) × AllMade start (take sides.prefix events) opening told)
good_parts start events durable opening left told = (
  λ good. (
    record { a_there = good.a_there; b_there = good.b_there; prefix = good.prefix; has_durable = good.has_durable; within = good.within; stands = good.stands },
    good.made,
  ),
  λ both. record {
    a_there = both.0.a_there;
    b_there = both.0.b_there;
    prefix = both.0.prefix;
    has_durable = both.0.has_durable;
    within = both.0.within;
    stands = both.0.stands;
    made = both.1;
  },
)

pub more_sides : (start : Node) (events more : List Event) (durable less : ℕ) (left : Contents) → less ≤ durable → HasGoodSides start events durable left
    → HasGoodSides start (events ++ more) less left
more_sides start events more durable less left least sides =
    let front : take sides.prefix (events ++ more) ≡ take sides.prefix events = take-append-le sides.prefix events more sides.within in
    record {
      a_there = sides.a_there;
      b_there = sides.b_there;
      prefix = sides.prefix;
      has_durable = omega arith;
      within = omega (arith, length-append events more);
      stands = subst (λ (l : List Event). Stands (left A) (left B) (after start l)) (sym front) sides.stands;
    }

pub fewer_sides : (start : Node) (events : List Event) (durable less : ℕ) (left : Contents) → less ≤ durable → HasGoodSides start events durable left
    → HasGoodSides start events less left
fewer_sides start events durable less left least sides = record {
  a_there = sides.a_there;
  b_there = sides.b_there;
  prefix = sides.prefix;
  has_durable = omega arith;
  within = sides.within;
  stands = sides.stands;
}

-- nothing was put since there were so many outputs
nothing_put : (start : Node) (events : List Event) (sent : List Output) → AllMade start events (length sent) sent
nothing_put start events sent output has = absurd (none output (subst (λ (l : List Output). Contains l output) (drop_all (length sent) sent (omega arith)) has))
  where
    none : (output : Output) → Contains [] output → ⊥
    none output has = omega (arith, has.1)

module _ {D : Type 0} (s : Ghosts D) where
  pub good_from : (site : D) (start : Node) (events : List Event) → HasGoodSidesNow s site start events → IsGoodNow s site start events (length (s.sent site))
  good_from site start events sides left told possible =
      let here = sides left possible.each in
      (good_parts start events (length events) (length (s.sent site)) left told).1 (
        here,
        subst (AllMade start (take here.prefix events) (length (s.sent site))) (sym possible.outlet)
            (nothing_put start (take here.prefix events) (s.sent site)),
      )

  pub sides_now : (site : D) (start : Node) (events : List Event) (opening : ℕ) → IsGoodNow s site start events opening → HasGoodSidesNow s site start events
  sides_now site start events opening good left may =
      ((good_parts start events (length events) opening left (s.sent site)).0 (good left (s.sent site) (record { each = may; outlet = refl }))).0

  pub sides_kept : (old new : D) (start : Node) (events : List Event) (durable opening : ℕ)
      → EachMoment s old new (IsGood start events durable opening) → EachLeaves s (HasGoodSides start events durable) old new
  sides_kept old new start events durable opening run =
      weaker s old new (IsGood start events durable opening) (λ left told. HasGoodSides start events durable left) run
      (λ left told good. ((good_parts start events durable opening left told).0 good).0)
