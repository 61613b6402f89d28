-- What a crash leaves of a site whose sides stand for a node, and of a first life.
--     good_leaves, leaves_all     where the sides are good with all events durable, a crash leaves a life
--     rests_good_now              sides that rest are good
--     reads_stand                 what a read gives stands for the node that began there, before any event
--     found_is                    so what is found there is that node
--     still_good                  where a crash leaves what it might have left before, the sides are as good
--     Opened, opened              what an engine is that was opened there
--     failed_leaves               where a batch is given up, a crash leaves a life of which none of it is surely durable
--     turned                      where its outputs are put, all of it is
--     .._moments                  the moments on the way, those within calls too
use Rattle.std.proofs.Common.{◌≡◌, inl, inr, ℕ, List, [], ◌∷◌, ◌++◌, length, refl, subst, arith, sym}
use Rattle.std.proofs.lemmas.List.{take_all, append-nil}
use Rattle.cc_messages.specs.declared.event.Event.{Event}
use Rattle.cc_messages.specs.declared.output.Output.{Output}
use Rattle.cc_site.specs.declared.site.Side.{Side}
use Rattle.cc_site.specs.declared.site.Side.TheVariants.{A, B}
use Rattle.cc_site.specs.declared.site.Site.{Ghosts}
use Rattle.cc_site.specs.Sides.{SideState, MayLeave, other}
use Rattle.cc_site.specs.Moments.{Contents, Possible}
use Rattle.cc_site.specs.Reads.{bytes_of}
use Rattle.cc_site.specs.Runs.{EachMoment, OnlyNow, CountsNow, started, joined, weaker, now_has}
use Rattle.cc_node.specs.Node.{Node, after, step, IsLawful}
use Rattle.cc_node_state.specs.Good.{IsGoodAt, RestsAt}
use Rattle.cc_node_state.specs.GoodLaws.{whole_good, good_other_way, good_for_more}
use Rattle.cc_node_state.specs.Sides.{StandsAt, Stands}
use Rattle.cc_journal.specs.declared.entry.Entry.{Entry}
use Rattle.cc_journal.specs.Batches.{AreLawful, events_in}
use Rattle.cc_journal.specs.Journals.{Position, IsGood, RestsNow, IsGoodNow, KeepsGood, StaysGood}
use Rattle.cc_flush.specs.Engine.{Engine}
use Rattle.cc_flush.specs.Commits.{LeadsTo, LeadsToOwed}
use Rattle.cc_flush.specs.declared.format_sides.FormatFault.{FormatFault}
use Rattle.cc_laws.specs.declared.first_life.Stopped.{Stopped}
use Rattle.cc_laws.specs.declared.first_life.Stopped.TheVariants.{Format}
use Rattle.cc_flush.specs.FormatSides.{IsNoneOrWhole}
use Rattle.cc_laws.specs.FirstLife.{IsOfFirstLife, LeavesLife, LeavesAll, LifeStops}
use Rattle.cc_laws.proofs.JoinedLives.{OneNode}

pub batch_lawful : (n : Node) (entries : List Entry) → AreLawful n entries → IsLawful n (events_in entries)
batch_lawful n [] lawful = tt
batch_lawful n (entry ∷ entries) lawful = (lawful.0, batch_lawful (step n entry.event) entries lawful.2)

-- where all events are durable, the sides stand for the node after all of them
pub all_stand : (start : Node) (events : List Event) (opening : ℕ) (a b : List ℕ) (told : List Output) → IsGoodAt start events (length events) opening a b told
    → Stands a b (after start events)
all_stand start events opening a b told good = subst (λ (l : List Event). Stands a b (after start l)) (take_all good.prefix events good.has_durable) good.stands

-- the moment is as good for more events, and for fewer durable ones
good_first : (start : Node) (events : List Event) (opening : ℕ) (left : Contents) (told : List Output) → IsGood start [] 0 opening left told
    → IsGood start events 0 opening left told
good_first start events opening left told good = good_for_more start [] events 0 0 opening (left A) (left B) told (omega arith) good

none_durable : (start : Node) (events : List Event) (durable opening : ℕ) (left : Contents) (told : List Output) → IsGood start events durable opening left told
    → IsGood start events 0 opening left told
none_durable start events durable opening left told good =
    subst (λ (es : List Event). IsGoodAt start es 0 opening (left A) (left B) told) (append-nil events)
    (good_for_more start events [] durable 0 opening (left A) (left B) told (omega arith) good)

-- whichever side rests
side_good : (side : Side) (generation place : ℕ) (start : Node) (events : List Event) (opening : ℕ) (left : Contents) (told : List Output)
    → RestsAt generation place start events opening (left side) (left (other side)) told → IsGoodAt start events (length events) opening (left A) (left B) told
side_good A generation place start events opening left told rests =
    whole_good generation place start events opening (left A) (left B) told rests (length events) (omega arith)
side_good B generation place start events opening left told rests =
    good_other_way start events (length events) opening (left B) (left A) told
    (whole_good generation place start events opening (left B) (left A) told rests (length events) (omega arith))

-- where the side in use is said, and the other one
pub stands_whole : (left : Contents) (side : Side) (generation place : ℕ) (node : Node) → StandsAt (left side) (left (other side)) generation place node
    → Stands (left A) (left B) node
stands_whole left A generation place node at = inl (record { generation = generation; place = place; at = at })
stands_whole left B generation place node at = inr (record { generation = generation; place = place; at = at })

-- where more is said of formatting that stops
pub stops_more : (U V : FormatFault → Type 0) (state : Side → SideState) (sent : List Output) (start : Node) (events : List Event) (opening : ℕ)
    → ((fault : FormatFault) → U fault → V fault) → (stopped : Stopped) → LifeStops U state sent start events opening stopped
    → LifeStops V state sent start events opening stopped
stops_more U V state sent start events opening more (Format fault) h = more fault h
stops_more U V state sent start events opening more _ h = h

-- what holds of the site of an engine and of its node holds of the site that is given back, and of the node that began there
pub given_back : {D : Type 0} (P : D → Node → Type 0) {back site : D} {twin start : Node} → back ≡ site → twin ≡ start → P site twin → P back start
given_back P {site = site} {start = start} is same h = subst (λ d. P d start) (sym is) (subst (P site) same h)

module _ {D : Type 0} (s : Ghosts D) where
  pub good_leaves : (site : D) (start : Node) (events : List Event) (opening : ℕ) → IsLawful start events → IsGoodNow s site start events opening
      → LeavesLife (s.state site) (s.sent site) start events (length events) opening
  good_leaves site start events opening lawful good left told possible = record { lawful = lawful; good = good left told possible }

  pub leaves_all : (site : D) (start : Node) (events : List Event) (opening : ℕ) → IsLawful start events → IsGoodNow s site start events opening
      → LeavesAll (s.state site) (s.sent site) start events opening
  leaves_all site start events opening lawful good left told possible =
      let now = good left told possible in
      (record { lawful = lawful; good = now }, after start events, all_stand start events opening (left A) (left B) told now, refl)

  pub rests_good_now : (site : D) (at : Position) (generation : ℕ) (start : Node) (events : List Event) (opening : ℕ)
      → RestsNow s site at generation start events opening → IsGoodNow s site start events opening
  rests_good_now site at generation start events opening rests left told possible =
      side_good at.side generation at.place start events opening left told (rests left told possible)

  -- what a read gives is one of the contents that a crash may leave
  pub reads_stand : (site : D) (start : Node) (opening : ℕ) → ((side : Side) → MayLeave (s.state site side) (s.state site side).bytes)
      → IsGoodNow s site start [] opening → Stands (s.state site A).bytes (s.state site B).bytes start
  reads_stand site start opening may_read good =
      all_stand start [] opening (s.state site A).bytes (s.state site B).bytes (s.sent site)
      (good (bytes_of s site) (s.sent site) (record { each = may_read; outlet = refl }))

  -- the node that is found where a life rests without an event is the one that began there
  pub found_is : OneNode → (site : D) (start twin : Node) (opening : ℕ) → ((side : Side) → MayLeave (s.state site side) (s.state site side).bytes)
      → IsGoodNow s site start [] opening → Stands (s.state site A).bytes (s.state site B).bytes twin → twin ≡ start
  found_is one_node site start twin opening may_read good stands =
      one_node (s.state site A).bytes (s.state site B).bytes twin start stands (reads_stand site start opening may_read good)

  pub still_good : (old new : D) (start : Node) (events : List Event) (opening : ℕ) → CountsNow s new
      → EachMoment s old new (Possible (s.state old) (s.sent old)) → IsGoodNow s old start events opening → IsGoodNow s new start events opening
  still_good old new start events opening counts run good left told possible =
      good left told (now_has s old new (Possible (s.state old) (s.sent old)) run counts left told possible)

  -- each moment of no call at all, of an opening, and of a batch that was put or given up
  pub rest_moments : (site : D) (start : Node) (events : List Event) (opening : ℕ) → OnlyNow s site → IsGoodNow s site start [] opening
      → EachMoment s site site (IsGood start events 0 opening)
  rest_moments site start events opening only good =
      started s site (IsGood start events 0 opening) (λ left told since. good_first start events opening left told (good left told (only left told since)))

  pub open_moments : (old new : D) (start : Node) (events : List Event) (opening : ℕ) → IsGoodNow s old start [] opening
      → EachMoment s old new (Possible (s.state old) (s.sent old)) → EachMoment s old new (IsGood start events 0 opening)
  open_moments old new start events opening good run =
      weaker s old new (Possible (s.state old) (s.sent old)) (IsGood start events 0 opening) run
      (λ left told possible. good_first start events opening left told (good left told possible))

  -- an engine that was opened where a life rests without an event: its node is the one that began there, and the sides stay good
  pub record Opened (old : D) (e : Engine D) (start : Node) (opening : ℕ) : Type 0 where
    pub same : e.twin ≡ start
    pub good : IsGoodNow s e.site e.twin [] opening
    pub moments : (events : List Event) → EachMoment s old e.site (IsGood e.twin events 0 opening)

  pub opened : OneNode → (old : D) (e : Engine D) → ((side : Side) → MayLeave (s.state old side) (s.state old side).bytes)
      → StandsAt (s.state old e.at.side).bytes (s.state old (other e.at.side)).bytes e.generation e.at.place e.twin → CountsNow s e.site
      → EachMoment s old e.site (Possible (s.state old) (s.sent old)) → (start : Node) (opening : ℕ) → IsGoodNow s old start [] opening
      → Opened old e start opening
  opened one_node old e may_read stands counts run start opening good =
      let found = stands_whole (bytes_of s old) e.at.side e.generation e.at.place e.twin stands in
      let same = found_is one_node old start e.twin opening may_read good found in
      let first = subst (λ n. IsGoodNow s old n [] opening) (sym same) good in
      record {
        same = same;
        good = still_good old e.site e.twin [] opening counts run first;
        moments = λ events. open_moments old e.site e.twin events opening first run;
      }

  -- what all of a batch is durable in
  abbrev CommitsAll : Engine D → Engine D → List Entry → Type 0
  CommitsAll old mid entries =
      (start : Node) (events : List Event) (opening : ℕ) → LeadsTo s old start events opening → IsGoodNow s mid.site start (events ++ events_in entries) opening

  -- a batch comes to an engine where a life rests without an event
  module _ (old : Engine D) (opening : ℕ) (good : IsGoodNow s old.site old.twin [] opening) where
    led : LeadsTo s old old.twin [] opening
    led = record { twin = refl; good = good }

    pub failed_moments : (new : D) (events : List Event) → KeepsGood s (LeadsTo s old) events old.site new
        → EachMoment s old.site new (IsGood old.twin events 0 opening)
    failed_moments new events keeps = keeps old.twin [] opening led

    pub failed_leaves : (new : D) (events : List Event) → IsLawful old.twin events → CountsNow s new → KeepsGood s (LeadsTo s old) events old.site new
        → LeavesLife (s.state new) (s.sent new) old.twin events 0 opening
    failed_leaves new events lawful counts keeps left told possible =
        let run = failed_moments new events keeps in
        record { lawful = lawful; good = now_has s old.site new (IsGood old.twin events 0 opening) run counts left told possible }

    module _ (mid new : Engine D) (landed entries : List Entry) (is : landed ≡ entries) (same : mid.twin ≡ old.twin) (kept : CommitsAll old mid entries)
        (put : StaysGood s (LeadsToOwed s landed mid) mid.site new.site) where
      stays : StaysGood s (LeadsToOwed s entries mid) mid.site new.site
      stays = subst (λ (l : List Entry). StaysGood s (LeadsToOwed s l mid) mid.site new.site) is put

      owed : LeadsToOwed s entries mid old.twin (events_in entries) opening
      owed = record { before = []; parts = refl; twin = same; good = kept old.twin [] opening led }

      pub turned : AreLawful old.twin entries → LeavesAll (s.state new.site) (s.sent new.site) old.twin (events_in entries) opening
      turned lawful =
          leaves_all new.site old.twin (events_in entries) opening (batch_lawful old.twin entries lawful)
          (stays.afterwards old.twin (events_in entries) opening owed)

      pub turned_moments : KeepsGood s (LeadsTo s old) (events_in entries) old.site mid.site
          → EachMoment s old.site new.site (IsGood old.twin (events_in entries) 0 opening)
      turned_moments keeps =
          let events = events_in entries in
          joined s old.site mid.site new.site (IsGood old.twin events 0 opening) (failed_moments mid.site events keeps)
          (weaker s mid.site new.site (IsGood old.twin events (length events) opening) (IsGood old.twin events 0 opening)
          (stays.moments old.twin events opening owed) (none_durable old.twin events (length events) opening))

  -- while it is formatted, and from then on
  pub format_moments : (old new : D) (start : Node) (events : List Event) → EachMoment s old new (IsNoneOrWhole start (s.sent old))
      → EachMoment s old new (IsOfFirstLife start events (s.sent old))
  format_moments old new start events formatting =
      weaker s old new (IsNoneOrWhole start (s.sent old)) (IsOfFirstLife start events (s.sent old)) formatting (λ left told is. inl is)

  pub first_moments : (old mid new : D) (start : Node) (events : List Event) → IsLawful start events → EachMoment s old mid (IsNoneOrWhole start (s.sent old))
      → EachMoment s mid new (IsGood start events 0 (length (s.sent old))) → EachMoment s old new (IsOfFirstLife start events (s.sent old))
  first_moments old mid new start events lawful formatting living =
      joined s old mid new (IsOfFirstLife start events (s.sent old)) (format_moments old mid start events formatting)
      (weaker s mid new (IsGood start events 0 (length (s.sent old))) (IsOfFirstLife start events (s.sent old)) living
      (λ left told good. inr (record { lawful = lawful; good = good })))
