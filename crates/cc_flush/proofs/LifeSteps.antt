-- How a life goes on.
--     both_parts, joined_on, sides_on     two parts of a life
--     stays, advances_both           an engine that was asked for nothing;  one action after another
--     parts_more, done_more          the actions that are done, and one more
--     put_advances                   outputs are put again
--     move_done, spent_done, move_given_up    the node is moved;  no generation is left for that;  a disk call of it fails
--     one_more                       one action more, each one after the other
--     turn_advances, turn_given_up   a batch becomes durable, and its outputs are put;  a disk call fails
--     run_ended, run_failed          a life that ends well;  one in which a disk call fails
use Rattle.std.proofs.Common.{◌≡◌, ℕ, ◌+◌, ◌<◌, ◌≤◌, List, [], ◌∷◌, ◌++◌, length, inl, inr, refl, sym, ◌∙◌, ap, subst, arith}
use Rattle.std.proofs.Common.{append_assoc, append-nil, length-append}
use Rattle.std.specs.Prelude.{◌⊎◌, ◌↔◌, false, None, Ok, Err}
use Rattle.std.proofs.lemmas.Bool.{cases_lt, le-ltb, lt-ltb}
use Rattle.std.proofs.lemmas.List.Concat.{flat_map-append}
use Rattle.cc_messages.specs.declared.event.Event.{Event}
use Rattle.cc_messages.specs.declared.output.Output.{Output}
use Rattle.cc_site.specs.declared.site.Site.{Ghosts}
use Rattle.cc_site.specs.declared.site.DeviceFault.{DeviceFault}
use Rattle.cc_site.specs.declared.site.Side.{Side}
use Rattle.cc_site.specs.declared.site.Side.TheVariants.{A, B}
use Rattle.cc_site.specs.Sides.{SideState, other}
use Rattle.cc_site.specs.Moments.{Contents}
use Rattle.cc_site.specs.Runs.{EachMoment, OnlyNow, started, joined, weaker}
use Rattle.cc_node.specs.Node.{Node, after, line}
use Rattle.cc_node.specs.Histories.{after-append, IsLawful-append}
use Rattle.cc_node_state.specs.GoodLaws.{good_for_more}
use Rattle.cc_journal.specs.declared.entry.Entry.{Entry}
use Rattle.cc_journal.specs.Batches.{AreLawful, events_in}
use Rattle.cc_checkpoint.specs.declared.side_choice.InUse.{InUse}
use Rattle.cc_journal.specs.GoodSides.{MayBeLeft, HasGoodSides, EachLeaves, KeepsSides}
use Rattle.cc_journal.specs.GoodSideLaws.{more_sides, fewer_sides, sides_now}
use Rattle.cc_journal.specs.Journals.{Position, room_limit, IsGood, IsGoodNow, KeepsGood, StaysGood}
use Rattle.cc_views.specs.Limits.{counter_limit}
use Rattle.cc_flush.specs.declared.flusher.Failed.{Failed}
use Rattle.cc_flush.specs.declared.actions.Action.{Action}
use Rattle.cc_flush.specs.declared.actions.Action.TheVariants.{Turn, Checkpoint}
use Rattle.cc_flush.specs.Engine.{Engine, in_use_of}
use Rattle.cc_flush.specs.Commits.{LeadsTo, LeadsToSides, HasLived, Advances, Flushes, FlushFails, PutsAgain}
use Rattle.cc_flush.specs.Checkpoints.{Moves, MoveFails}
use Rattle.cc_flush.specs.Lives.{events_by, events_of, outputs_by, outputs_of, in_use_by, in_use_after, BeginsWithTurn, MayFailIn}
use Rattle.cc_flush.specs.Lives.{HasDone, FailsIn, HaveDone, HasRun}
use Rattle.cc_flush.proofs.KeptSides.{lawful_after}
use Rattle.cc_flush.proofs.CommitSteps.{both_ways, good_less, in_use_is, leads_good, call_keeps_sides}

-- ---- lists of actions

pub events_more : (done : List Action) (action : Action) → events_of (done ++ action ∷ []) ≡ events_of done ++ events_by action
events_more done action =
    flat_map-append events_by done (action ∷ []) ∙ ap (λ (l : List Event). events_of done ++ l) (append-nil (events_by action))

pub outputs_more : (n : Node) (done : List Action) (action : Action)
    → outputs_of n (done ++ action ∷ []) ≡ outputs_of n done ++ outputs_by (after n (events_of done)) action
outputs_more n [] action = append-nil (outputs_by n action)
outputs_more n (first ∷ done) action =
    let next = after n (events_by first) in
    ap (λ (l : List Output). outputs_by n first ++ l) (outputs_more next done action)
    ∙ sym (append_assoc (outputs_by n first) (outputs_of next done) (outputs_by (after next (events_of done)) action))
    ∙ ap (λ (m : Node). (outputs_by n first ++ outputs_of next done) ++ outputs_by m action) (sym (after-append n (events_by first) (events_of done)))

pub parts_more : (actions done left : List Action) (action : Action) (more : List Action) → actions ≡ done ++ left → left ≡ action ∷ more
    → actions ≡ (done ++ action ∷ []) ++ more
parts_more actions done left action more parts next =
    parts ∙ ap (λ (l : List Action). done ++ l) next ∙ sym (append_assoc done (action ∷ []) more)

in_use_more : (used : InUse) (done : List Action) (action : Action) → in_use_after used (done ++ action ∷ []) ≡ in_use_by (in_use_after used done) action
in_use_more used [] action = refl
in_use_more used (first ∷ done) action = in_use_more (in_use_by used first) done action

-- a generation that isn't the last one, and one that is
next_raised : (used : InUse) → used.generation < counter_limit → in_use_by used Checkpoint ≡ record { side = other used.side; generation = used.generation + 1 }
next_raised used less = rw (lt-ltb used.generation counter_limit less) refl

next_spent : (used : InUse) → counter_limit ≤ used.generation → in_use_by used Checkpoint ≡ used
next_spent used spent = rw (le-ltb used.generation counter_limit spent) refl

module _ {D : Type 0} (s : Ghosts D) where
  abbrev Lived : Engine D → Node → List Event → ℕ → Type 0
  Lived = HasLived s

  abbrev pub Goes : List Event → List Output → InUse → Engine D → Engine D → Type 0
  Goes = Advances s Lived

  -- two parts of a life, the second after the events of the first
  abbrev Parts : (List Event → ℕ → Contents → List Output → Type 0) → Type 0
  Parts P =
      (old mid new : D) (events first then : List Event) → EachMoment s old mid (P (events ++ first) (length events))
      → EachMoment s mid new (P ((events ++ first) ++ then) (length (events ++ first))) → EachMoment s old new (P (events ++ (first ++ then)) (length events))

  both_parts : (P : List Event → ℕ → Contents → List Output → Type 0)
      → ((events more : List Event) (n : ℕ) (left : Contents) (told : List Output) → P events n left told → P (events ++ more) n left told)
      → ((events : List Event) (n less : ℕ) (left : Contents) (told : List Output) → less ≤ n → P events n left told → P events less left told) → Parts P
  both_parts P more fewer old mid new events first then one two =
      let all = (events ++ first) ++ then in
      let few = length events in
      subst (λ (l : List Event). EachMoment s old new (P l few)) (append_assoc events first then)
      (joined s old mid new (P all few) (weaker s old mid (P (events ++ first) few) (P all few) one (more (events ++ first) then few))
      (weaker s mid new (P all (length (events ++ first))) (P all few) two
      (λ left told. fewer all (length (events ++ first)) few left told (omega (arith, length-append events first)))))

  joined_on : (start : Node) (opening : ℕ) → Parts (λ events n. IsGood start events n opening)
  joined_on start opening =
      both_parts (λ events n. IsGood start events n opening)
      (λ events more n left told. good_for_more start events more n n opening (left A) (left B) told (omega arith))
      (λ events n less left told. good_less start events n less opening left told)

  sides_on : (start : Node) → Parts (λ events n left told. HasGoodSides start events n left)
  sides_on start =
      both_parts (λ events n left told. HasGoodSides start events n left)
      (λ events more n left told. more_sides start events more n n left (omega arith))
      (λ events n less left told. fewer_sides start events n less left)

  pub stays : (led : Engine D → Node → List Event → ℕ → Type 0) (e : Engine D)
      → ((start : Node) (events : List Event) (opening : ℕ) → led e start events opening → IsGoodNow s e.site start events opening)
      → e.owes ≡ false → e.failed ≡ None → (s.honest e.site → OnlyNow s e.site) → Advances s led [] [] (in_use_of e) e e
  stays led e good owes none only = record {
    twin = refl;
    owes = owes;
    goes_on = none;
    in_use = refl;
    same_honest = (λ h. h, λ h. h);
    told = λ t. (t, sym (append-nil (s.sent e.site)));
    moments = λ h t start before opening was. rw (append-nil before) (started s e.site (IsGood start before (length before) opening)
        (λ left told since. good start before opening was left told (only h left told since)));
    afterwards = λ h t start before opening was. rw (append-nil before) was;
    sides = λ h start before was. rw (append-nil before) (started s e.site (λ left told. HasGoodSides start before (length before) left)
        (λ left told since. was.sides left (only h left told since).each));
    sides_afterwards = λ h start before was. rw (append-nil before) was;
    same_failures = refl;
  }

  pub advances_both : (old mid new : Engine D) (xs ys : List Event) (ps qs : List Output) (g g' : InUse)
      → Goes xs ps g old mid → Goes ys qs g' mid new → Goes (xs ++ ys) (ps ++ qs) g' old new
  advances_both old mid new xs ys ps qs g g' first then = record {
    twin = then.twin ∙ ap (λ (n : Node). after n ys) first.twin ∙ sym (after-append old.twin xs ys);
    owes = then.owes;
    goes_on = then.goes_on;
    in_use = then.in_use;
    same_honest = both_ways first.same_honest then.same_honest;
    told = λ t.
        let late = then.told t in
        let early = first.told late.0 in
        (early.0, late.1 ∙ ap (λ (l : List Output). l ++ qs) early.1 ∙ append_assoc (s.sent old.site) ps qs);
    moments = λ h t start before opening was.
        let mid_told = (then.told t).0 in
        joined_on start opening old.site mid.site new.site before xs ys (first.moments h mid_told start before opening was)
        (then.moments (first.same_honest.0 h) t start (before ++ xs) opening (first.afterwards h mid_told start before opening was));
    afterwards = λ h t start before opening was.
        subst (λ (l : List Event). Lived new start l opening) (append_assoc before xs ys)
        (then.afterwards (first.same_honest.0 h) t start (before ++ xs) opening (first.afterwards h (then.told t).0 start before opening was));
    sides = λ h start before was.
        sides_on start old.site mid.site new.site before xs ys (first.sides h start before was)
        (then.sides (first.same_honest.0 h) start (before ++ xs) (first.sides_afterwards h start before was));
    sides_afterwards = λ h start before was.
        subst (λ (l : List Event). LeadsToSides s new start l) (append_assoc before xs ys)
        (then.sides_afterwards (first.same_honest.0 h) start (before ++ xs) (first.sides_afterwards h start before was));
    same_failures = then.same_failures ∙ first.same_failures;
  }

  -- these actions are done
  abbrev pub Done : List Action → Engine D → Engine D → Type 0
  Done done old new = Goes (events_of done) (outputs_of old.twin done) (in_use_after (in_use_of old) done) old new

  -- one action more
  pub done_more : (old mid new : Engine D) (done : List Action) (action : Action) → Done done old mid
      → Goes (events_by action) (outputs_by mid.twin action) (in_use_by (in_use_of mid) action) mid new → Done (done ++ action ∷ []) old new
  done_more old mid new done action first then =
      let more = outputs_more old.twin done action in
      rw (events_more done action, more, in_use_more (in_use_of old) done action, ← first.twin, ← first.in_use)
      (advances_both old mid new (events_of done) (events_by action) (outputs_of old.twin done) (outputs_by mid.twin action)
      (in_use_after (in_use_of old) done) (in_use_by (in_use_of mid) action) first then)

  -- outputs are put again
  pub put_advances : (old new : Engine D) (outputs : List Output) → old.owes ≡ false → old.failed ≡ None → PutsAgain s outputs old new
      → Goes [] outputs (in_use_of old) old new
  put_advances old new outputs owes none again = record {
    twin = again.twin;
    owes = again.owes ∙ owes;
    goes_on = again.failed ∙ none;
    in_use = in_use_is new old.at.side old.generation (ap (λ (at : Position). at.side) again.at) again.generation;
    same_honest = again.puts.same_honest;
    told = again.puts.told;
    moments = λ h t start before opening was. rw (append-nil before) ((again.good h t).moments start before opening was);
    afterwards = λ h t start before opening was. rw (append-nil before) (record {
      sound = was.sound;
      lawful = was.lawful;
      twin = again.twin ∙ was.twin;
      good = (again.good h t).afterwards start before opening was;
    });
    sides = λ h start before was. rw (append-nil before) (weaker s old.site new.site (λ left told. MayBeLeft (s.state old.site) left)
        (λ left told. HasGoodSides start before (length before) left) (again.puts.contents h) (λ left told may. was.sides left may));
    sides_afterwards = λ h start before was. rw (append-nil before) (record {
      twin = again.twin ∙ was.twin;
      sides = λ left may. was.sides left (subst (λ (t : Side → SideState). MayBeLeft t left) (again.puts.same_state h) may);
    });
    same_failures = again.puts.same_failures;
  }

  -- ---- lawful histories lead to an engine as others do

  leads : (e : Engine D) (start : Node) (events : List Event) (opening : ℕ) → Lived e start events opening → LeadsTo s e start events opening
  leads e start events opening was = record { twin = was.twin; good = was.good }

  -- a batch becomes durable, and its outputs are put
  pub turn_advances : (old new : Engine D) (batch : List Entry) → AreLawful old.twin batch → Flushes s batch old new
      → Goes (events_in batch) (line old.twin (events_in batch)) (in_use_of old) old new
  turn_advances old new batch lawful run = record {
    twin = run.twin;
    owes = run.owes;
    goes_on = run.goes_on;
    in_use = run.in_use;
    same_honest = run.same_honest;
    told = run.told;
    moments = λ h t start before opening was. run.moments h t start before opening (leads old start before opening was);
    afterwards = λ h t start before opening was.
        let now = run.afterwards h t start before opening (leads old start before opening was) in
        record {
          sound = was.sound;
          lawful = IsLawful-append start before (events_in batch) was.lawful (lawful_after old.twin start before batch was.twin lawful);
          twin = now.twin;
          good = now.good;
        };
    sides = run.sides;
    sides_afterwards = run.sides_afterwards;
    same_failures = run.same_failures;
  }

  pub turn_given_up : (old new : Engine D) (batch : List Entry) (fault : DeviceFault) → FlushFails s batch old new fault → FailsIn s (Turn batch) old new fault
  turn_given_up old new batch fault run = record {
    twin = run.twin;
    owes = run.owes;
    at = run.at;
    used = run.used;
    failed = run.failed;
    same_generation = run.same_generation;
    same_honest = run.same_honest;
    told = run.told;
    moments = λ h start before opening was. run.moments h start before opening (leads old start before opening was);
    sides = run.sides;
    device = run.device;
  }

  -- ---- the node is moved to the other side

  -- what a checkpoint ensures, whatever its answer is
  pub record KeepsNode (old new : Engine D) : Type 0 where
    pub twin : new.twin ≡ old.twin
    pub owes : new.owes ≡ false
    pub same_honest : s.honest old.site ↔ s.honest new.site
    pub told : (s.tells old.site ↔ s.tells new.site) × (s.sent new.site ≡ s.sent old.site)
    pub good : s.honest old.site → StaysGood s (LeadsTo s old) old.site new.site

  keeps_good : (old new : Engine D) → KeepsNode old new → s.honest old.site → KeepsGood s (Lived old) [] old.site new.site
  keeps_good old new keeps h start before opening was =
      rw (append-nil before) ((keeps.good h).moments start before opening (leads old start before opening was))

  keeps_sides : (old new : Engine D) → KeepsNode old new → s.honest old.site → KeepsSides s (LeadsToSides s old) [] old.site new.site
  keeps_sides old new keeps h =
      call_keeps_sides s old [] new.site (λ start before opening was. rw (append-nil before) ((keeps.good h).moments start before opening was))

  move_goes : (old new : Engine D) (g : InUse) → KeepsNode old new → new.failed ≡ None → in_use_of new ≡ g → s.failures new.site ≡ s.failures old.site
      → Goes [] [] g old new
  move_goes old new g keeps none used count = record {
    twin = keeps.twin;
    owes = keeps.owes;
    goes_on = none;
    in_use = used;
    same_honest = keeps.same_honest;
    told = λ t. (keeps.told.0.1 t, keeps.told.1 ∙ sym (append-nil (s.sent old.site)));
    moments = λ h t. keeps_good old new keeps h;
    afterwards = λ h t start before opening was. rw (append-nil before) (record {
      sound = was.sound;
      lawful = was.lawful;
      twin = keeps.twin ∙ was.twin;
      good = (keeps.good h).afterwards start before opening (leads old start before opening was);
    });
    sides = keeps_sides old new keeps;
    sides_afterwards = λ h start before was. rw (append-nil before) (record {
      twin = keeps.twin ∙ was.twin;
      sides = sides_now s new.site start before (length (s.sent old.site))
          ((keeps.good h).afterwards start before (length (s.sent old.site)) (leads_good s old start before was));
    });
    same_failures = count;
  }

  pub move_done : (old new : Engine D) → KeepsNode old new → (old.generation < counter_limit → Moves s old new) → ¬ (counter_limit ≤ old.generation)
      → HasDone s Checkpoint old new
  move_done old new keeps moves left = elim (cases_lt old.generation counter_limit) [
    | inl less ↦
        let did = moves less in
        let used = in_use_is new (other old.at.side) (old.generation + 1) did.side did.generation ∙ sym (next_raised (in_use_of old) less) in
        (move_goes old new (in_use_by (in_use_of old) Checkpoint) keeps did.goes_on used did.same_failures, inr did)
    | inr spent ↦ absurd (left spent)
  ]

  pub spent_done : (old new : Engine D) → KeepsNode old new → old.failed ≡ None → ¬ (old.generation < counter_limit)
      → (counter_limit ≤ old.generation → new ≡ old) → HasDone s Checkpoint old new
  spent_done old new keeps none last same = elim (cases_lt old.generation counter_limit) [
    | inl less ↦ absurd (last less)
    | inr spent ↦
        let is = same spent in
        let used = ap (λ (e : Engine D). in_use_of e) is ∙ sym (next_spent (in_use_of old) spent) in
        let none_new = ap (λ (e : Engine D). e.failed) is ∙ none in
        (move_goes old new (in_use_by (in_use_of old) Checkpoint) keeps none_new used (ap (λ (e : Engine D). s.failures e.site) is), inl (spent, is))
  ]

  pub move_given_up : (old new : Engine D) (fault : DeviceFault) → KeepsNode old new → (old.generation < counter_limit → MoveFails s old new fault)
      → ¬ (counter_limit ≤ old.generation) → FailsIn s Checkpoint old new fault
  move_given_up old new fault keeps fails left = elim (cases_lt old.generation counter_limit) [
    | inl less ↦ record {
      twin = keeps.twin;
      owes = keeps.owes;
      at = (fails less).at;
      used = (fails less).used;
      failed = (fails less).failed;
      same_generation = (fails less).generation;
      same_honest = keeps.same_honest;
      told = keeps.told;
      moments = keeps_good old new keeps;
      sides = keeps_sides old new keeps;
      device = (fails less).device;
    }
    | inr spent ↦ absurd (left spent)
  ]

  -- ---- actions one after the other

  pub one_more : (done : List Action) (action : Action) (old mid new : Engine D) → HaveDone s done old mid → HasDone s action mid new
      → HaveDone s (done ++ action ∷ []) old new
  one_more [] action old mid new none did = (new, subst (λ (e : Engine D). HasDone s action e new) none did, refl)
  one_more (first ∷ done) action old mid new have did = (have.0, have.1, one_more done action have.0 mid new have.2 did)

  -- ---- the end of a life

  -- actions are done, and the rest, of which there is none or for which there is no room, is given up
  pub run_ended : (old new : Engine D) (actions done rest : List Action) → actions ≡ done ++ rest → Done done old new → HaveDone s done old new
      → (rest ≡ []) ⊎ (BeginsWithTurn rest × (room_limit ≤ new.used)) → HasRun s actions old new (Ok tt)
  run_ended old new actions done rest parts run each why = record {
    done = done;
    rest = rest;
    parts = parts;
    twin = run.twin;
    in_use = run.in_use;
    each = each;
    told = λ t. (run.told t).1;
    stops = why;
    moments = λ h t none. run.moments h t;
    afterwards = λ h t none. run.afterwards h t;
    sides = λ h none. run.sides h;
    sides_afterwards = λ h none. run.sides_afterwards h;
  }

  -- actions are done, a disk call failed in the next one, and the rest is given up
  pub run_failed : (old mid new : Engine D) (actions done left : List Action) (action : Action) (more : List Action) (failed : Failed)
      → actions ≡ done ++ left → left ≡ action ∷ more → Done done old mid → HaveDone s done old mid → FailsIn s action mid new failed.fault
      → HasRun s actions old new (Err failed)
  run_failed old mid new actions done left action more failed parts next run each fails = record {
    done = done;
    rest = action ∷ more;
    parts = parts ∙ ap (λ (l : List Action). done ++ l) next;
    twin = fails.twin ∙ run.twin;
    in_use = in_use_is new mid.at.side mid.generation (ap (λ (at : Position). at.side) fails.at) fails.same_generation ∙ run.in_use;
    each = λ none. (mid, action, more, each, refl, fails);
    told = λ t. fails.told.1 ∙ (run.told (fails.told.0.1 t)).1;
    stops = λ none. (action, more, refl, subst (λ (used : InUse). MayFailIn used.side action failed.fault.side failed.fault.call) run.in_use fails.device.0);
    moments = λ h t none start events opening was.
        let mid_told = fails.told.0.1 t in
        subst (λ (l : List Event). EachMoment s old.site new.site (IsGood start (events ++ l) (length events) opening)) (sym (events_more done action))
        (joined_on start opening old.site mid.site new.site events (events_of done) (events_by action) (run.moments h mid_told start events opening was)
        (fails.moments (run.same_honest.0 h) start (events ++ events_of done) opening (run.afterwards h mid_told start events opening was)));
    afterwards = λ h t none start events opening was. tt;
    sides = λ h none start events was.
        subst (λ (l : List Event). EachLeaves s (HasGoodSides start (events ++ l) (length events)) old.site new.site) (sym (events_more done action))
        (sides_on start old.site mid.site new.site events (events_of done) (events_by action) (run.sides h start events was)
        (fails.sides (run.same_honest.0 h) start (events ++ events_of done) (run.sides_afterwards h start events was)));
    sides_afterwards = λ h none start events was. tt;
  }
