-- While the outputs of durable events are put, the site is good and rests.
--     putting_rests                    at each moment
--     puts_good, puts_rest             along a run of calls, and after it
--     line_made                        what the last events put out
--     released, put_again              an engine puts the outputs of the batch that is owed;  those that stand in its node
use Rattle.std.proofs.Common.{◌≡◌, ◌⊎◌, inr, ⊎_elim, ℕ, zero, suc, List, [], ◌∷◌, ◌++◌, length, take, drop, refl, sym, ◌∙◌, subst, take-append-drop, arith}
use Rattle.std.specs.Prelude.{false, None}
use Rattle.std.specs.List.{Contains, AllByRecursion}
use Rattle.std.proofs.lemmas.List.{append-nil}
use Rattle.std.proofs.lemmas.List.Elements.{Contains-append_cases, Contains-append_left, Contains-append_right}
use Rattle.cc_messages.specs.declared.event.Event.{Event}
use Rattle.cc_messages.specs.declared.output.Output.{Output}
use Rattle.cc_site.specs.declared.site.Side.{Side}
use Rattle.cc_site.specs.declared.site.Site.{Ghosts}
use Rattle.cc_site.specs.Sides.{SideState, MayLeave}
use Rattle.cc_site.specs.Moments.{Contents, Possible}
use Rattle.cc_site.specs.Runs.{EachMoment, weaker}
use Rattle.cc_node.specs.Node.{Node, after, line, HasOutput, MayBeOut}
use Rattle.cc_node.specs.Histories.{line-append}
use Rattle.cc_journal.specs.declared.entry.Entry.{Entry}
use Rattle.cc_journal.specs.Batches.{events_in}
use Rattle.cc_journal.specs.Journals.{Position, IsGood, Rests, IsAtRest, RestsNow, StaysGood}
use Rattle.cc_journal.specs.Outlet.{IsPutting, Puts}
use Rattle.cc_journal.proofs.Rests.{rests_whole_good}
use Rattle.cc_flush.specs.Engine.{Engine, IsSound, IsOwed}
use Rattle.cc_flush.specs.Commits.{HasLived, LeadsToOwed, PutsAgain}
use Rattle.cc_flush.proofs.KeptSides.{MayRead, good_now, rested, owed_rests}
use Rattle.cc_flush.proofs.Resends.{standing_is_made}

contains_past : (n : ℕ) (xs ys : List Output) (output : Output) → Contains (drop n (xs ++ ys)) output → Contains (drop n xs) output ⊎ Contains ys output
contains_past zero xs ys output has = Contains-append_cases xs ys output has
contains_past (suc n) [] ys output has =
    inr (subst (λ (l : List Output). Contains l output) (take-append-drop (suc n) ys) (Contains-append_right (take (suc n) ys) (drop (suc n) ys) output has))
contains_past (suc n) (x ∷ xs) ys output has = contains_past n xs ys output has

-- the journal rests with all events, which made what is put
module _ (at : Position) (generation : ℕ) (start : Node) (events : List Event) (opening : ℕ) (more : List Output)
    (are_made : (output : Output) → Contains more output → MayBeOut start events output) where
  module _ (state : Side → SideState) (sent : List Output) (rest : IsAtRest state sent at generation start events opening) where
    putting_rests : (left : Contents) (told : List Output) → IsPutting state sent more left told → Rests at generation start events opening left told
    putting_rests left told putting =
        let was = rest left sent (record { each = putting.each; outlet = refl }) in
        record {
          other_there = was.other_there;
          stands = was.stands;
          made = λ output has. ⊎_elim (was.made output)
              (λ new. are_made output (subst (λ (l : List Output). Contains l output) (sym putting.parts)
              (Contains-append_left putting.put putting.rest output new)))
              (contains_past opening sent putting.put output (subst (λ (l : List Output). Contains (drop opening l) output) putting.outlet has));
        }

  module _ {D : Type 0} (s : Ghosts D) (old new : D) (puts : Puts s more old new) (is_honest : s.honest old) (is_told : s.tells new)
      (rest : RestsNow s old at generation start events opening) where
    -- all outputs have been put
    put_last : (left : Contents) (told : List Output) → Possible (s.state new) (s.sent new) left told → IsPutting (s.state old) (s.sent old) more left told
    put_last left told possible = record {
      each = λ side. subst (λ (t : Side → SideState). MayLeave (t side) (left side)) (puts.same_state is_honest) (possible.each side);
      put = more;
      rest = [];
      parts = sym (append-nil more);
      outlet = possible.outlet ∙ (puts.told is_told).1;
    }

    pub puts_good : EachMoment s old new (IsGood start events (length events) opening)
    puts_good =
        weaker s old new (IsPutting (s.state old) (s.sent old) more) (IsGood start events (length events) opening) (puts.moments is_honest is_told)
        (λ left told putting. rests_whole_good at generation start events opening (length events) left told (omega arith)
        (putting_rests (s.state old) (s.sent old) rest left told putting))

    pub puts_rest : RestsNow s new at generation start events opening
    puts_rest left told possible = putting_rests (s.state old) (s.sent old) rest left told (put_last left told possible)

-- the outputs of the last events were made
pub line_made : (start node : Node) (before events : List Event) → node ≡ after start before → (output : Output) → Contains (line node events) output
    → MayBeOut start (before ++ events) output
line_made start node before events is output has =
    inr (subst (λ (l : List Output). Contains l output) (sym (line-append start before events))
    (Contains-append_right (line start before) (line (after start before) events) output
    (subst (λ (n : Node). Contains (line n events) output) is has)))

module _ {D : Type 0} (s : Ghosts D) (may_read : MayRead s) (old : Engine D) (site : D) (sound : IsSound s old) where
  -- the sides rest, and what is put was made
  stays_good : (outputs : List Output) → Puts s outputs old.site site → (led : Node → List Event → ℕ → Type 0) → s.honest old.site → s.tells site
      → ((start : Node) (events : List Event) (opening : ℕ) → led start events opening → RestsNow s old.site old.at old.generation start events opening)
      → ((start : Node) (events : List Event) (opening : ℕ) → led start events opening → (output : Output) → Contains outputs output
      → MayBeOut start events output) → StaysGood s led old.site site
  stays_good outputs puts led h t rest made = record {
    moments = λ start events opening was.
        puts_good old.at old.generation start events opening outputs (made start events opening was) s old.site site puts h t (rest start events opening was);
    afterwards = λ start events opening was.
        good_now (s.state site) (s.sent site) old.at old.generation start events opening
        (puts_rest old.at old.generation start events opening outputs (made start events opening was) s old.site site puts h t (rest start events opening was));
  }

  pub released : (entries : List Entry) → Puts s (line old.twin (events_in entries)) old.site site → IsOwed old entries → s.honest old.site → s.tells site
      → StaysGood s (LeadsToOwed s entries old) old.site site
  released entries puts owed h t =
      stays_good (line old.twin (events_in entries)) puts (LeadsToOwed s entries old) h t
      (λ start events opening was. owed_rests s may_read old sound h start events opening was.good entries owed was.before was.parts was.twin)
      (λ start events opening was output has.
      subst (λ (l : List Event). MayBeOut start l output) (sym was.parts) (line_made start old.twin was.before (events_in entries) was.twin output has))

  pub put_again : (outputs : List Output) → Puts s outputs old.site site → AllByRecursion (HasOutput old.twin) outputs → old.failed ≡ None → old.owes ≡ false
      → PutsAgain s outputs old (record old { site = site })
  put_again outputs puts stand none idle = record {
    twin = refl;
    at = refl;
    generation = refl;
    used = refl;
    owes = refl;
    owed = refl;
    failed = refl;
    puts = puts;
    good = λ h t. stays_good outputs puts (HasLived s old) h t
        (λ start events opening was. rested s may_read old sound h start events opening was.good none idle was.twin)
        (λ start events opening was. standing_is_made start old.twin events outputs was.sound was.lawful was.twin stand);
  }
