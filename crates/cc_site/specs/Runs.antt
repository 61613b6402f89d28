-- Runs of calls on a site, by what it means: the record of the trait's members.
--     KeepsOutlet                 nothing was put
--     Passes, EachMoment          what calls add to the moments;  what holds at each moment of a run of them
--     OnlyNow, CountsNow          at its first moment nothing but what is possible counts;  at its last all that is possible does
--     started, goes_on, rests, joined, weaker, now_has     how a run is put together
use Rattle.std.specs.Prelude.{◌≡◌, ◌⊎◌, ◌↔◌, ℕ, ◌≤◌, List}
use Rattle.std.proofs.Common.{inl, inr, ⊎_elim, arith}
use Rattle.cc_messages.specs.declared.output.Output.{Output}
use Rattle.cc_site.specs.declared.site.Site.{Ghosts}
use Rattle.cc_site.specs.Moments.{Contents, Possible, Nothing, Elapses}

module _ {D : Type 0} (s : Ghosts D) where
  pub record KeepsOutlet (old new : D) : Type 0 where
    pub keeps_honesty : s.honest old ↔ s.honest new
    pub keeps_telling : s.tells old ↔ s.tells new
    pub same : s.sent new ≡ s.sent old

  -- time goes on from the old site to the new one, and what is `here` counts
  abbrev pub Passes : D → D → (Contents → List Output → Type 0) → Type 0
  Passes old new here = Elapses (s.moment old) (s.moment new) (s.left_since old) (s.left_since new) here

  -- Each moment from the old site to the new one has P, whatever a crash leaves at it.
  pub record EachMoment (old new : D) (P : Contents → List Output → Type 0) : Type 0 where
    pub later : s.moment old ≤ s.moment new
    pub each : (left : Contents) (told : List Output) → s.left_since new (s.moment old) left told → P left told
    -- for a run that began earlier
    pub before : (t : ℕ) (left : Contents) (told : List Output) → t ≤ s.moment old → s.left_since new t left told → s.left_since old t left told ⊎ P left told

  -- since this moment only what is possible now was so
  abbrev pub OnlyNow : D → Type 0
  OnlyNow site = (left : Contents) (told : List Output) → s.left_since site (s.moment site) left told → Possible (s.state site) (s.sent site) left told

  -- what is possible now counts since an earlier moment
  abbrev pub CountsNow : D → Type 0
  CountsNow site =
      (t : ℕ) (left : Contents) (told : List Output) → t ≤ s.moment site → Possible (s.state site) (s.sent site) left told → s.left_since site t left told

  -- before the first call
  pub started : (site : D) (P : Contents → List Output → Type 0)
      → ((left : Contents) (told : List Output) → s.left_since site (s.moment site) left told → P left told) → EachMoment site site P
  started site P here = record { later = omega arith; each = here; before = λ t left told le since. inl since }

  -- one call more
  pub goes_on : (old mid new : D) (P here : Contents → List Output → Type 0) → EachMoment old mid P → Passes mid new here
      → ((left : Contents) (told : List Output) → here left told → P left told) → EachMoment old new P
  goes_on old mid new P here so_far time has = record {
    later = omega (arith, so_far.later, time.later);
    each = λ left told since. ⊎_elim (so_far.each left told) (has left told) (time.nothing_else (s.moment old) left told so_far.later since);
    before = λ t left told le since.
        ⊎_elim (so_far.before t left told le) (λ now. inr (has left told now)) (time.nothing_else t left told (omega (arith, so_far.later)) since);
  }

  -- one call more that touches nothing
  pub rests : (old mid new : D) (P : Contents → List Output → Type 0) → EachMoment old mid P → Passes mid new Nothing → EachMoment old new P
  rests old mid new P so_far time = goes_on old mid new P Nothing so_far time (λ left told none. absurd none)

  -- two runs
  pub joined : (old mid new : D) (P : Contents → List Output → Type 0) → EachMoment old mid P → EachMoment mid new P → EachMoment old new P
  joined old mid new P first second = record {
    later = omega (arith, first.later, second.later);
    each = λ left told since. ⊎_elim (first.each left told) (λ has. has) (second.before (s.moment old) left told first.later since);
    before = λ t left told le since. ⊎_elim (first.before t left told le) (λ has. inr has) (second.before t left told (omega (arith, first.later)) since);
  }

  pub weaker : (old new : D) (P Q : Contents → List Output → Type 0) → EachMoment old new P
      → ((left : Contents) (told : List Output) → P left told → Q left told) → EachMoment old new Q
  weaker old new P Q run to = record {
    later = run.later;
    each = λ left told since. to left told (run.each left told since);
    before = λ t left told le since. ⊎_elim (λ was. inl was) (λ has. inr (to left told has)) (run.before t left told le since);
  }

  -- at the end of a run, what is possible is what was so at one of its moments
  pub now_has : (old new : D) (P : Contents → List Output → Type 0) → EachMoment old new P → CountsNow new
      → (left : Contents) (told : List Output) → Possible (s.state new) (s.sent new) left told → P left told
  now_has old new P run counts left told is = run.each left told (counts (s.moment old) left told run.later is)
