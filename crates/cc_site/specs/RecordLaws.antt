-- One step or one output more at a site in memory.
--     since_now, now_only, may_read_now   what is possible now
--     side_of, disk_state                 a side of these bytes and marks;  the sides of a disk
--     marks_push                          the marks with one step more
--     this_side, that_side, told_fits, firm_fits, within     what a step does to its side, and to the rest
--     elapses, elapses_same, elapses_put  what a step, nothing, or an output adds to the moments
use Rattle.std.proofs.Common.{◌≡◌, ◌⊎◌, inl, inr, ⊎_elim, ℕ, zero, suc, ◌+◌, ◌<◌, ◌≤◌, Bool, true, false, cond, List, [], ◌∷◌, ◌++◌, length, take, drop}
use Rattle.std.proofs.Common.{refl, sym, ◌∙◌, ap, subst, subst₂, arith, length-append}
use Rattle.std.proofs.lemmas.Bool.{cases_lt}
use Rattle.std.proofs.lemmas.List.{take_all, drop_all, take-append-le, drop-append-le}
use Rattle.cc_messages.specs.declared.output.Output.{Output}
use Rattle.cc_site.specs.declared.site.Side.{Side}
use Rattle.cc_site.specs.declared.site.Side.TheVariants.{A, B}
use Rattle.cc_site.specs.declared.steps.Step.{Step}
use Rattle.cc_site.specs.declared.disk.Disk.{Disk}
use Rattle.cc_site.specs.Sides.{SideState, MayLeave, other, firm}
use Rattle.cc_site.specs.Moments.{Contents, Possible, Within, Elapses}
use Rattle.cc_site.specs.Crashes.{each_side}
use Rattle.cc_site.specs.Record.{is_side, Marks, no_marks, mark_change, mark_step, marks_after, marks, undo_change, undo_step, undo, state_now, state_at}
use Rattle.cc_site.specs.Record.{told_at, ToldFits, FirmFits, Since}
use Rattle.cc_site.specs.Disks.{bytes_of, AddsStep}

same_side : (side : Side) → is_side side side ≡ true
same_side A = refl
same_side B = refl

other_side : (side : Side) → is_side (other side) side ≡ false
other_side A = refl
other_side B = refl

-- a side of these bytes and marks
abbrev pub side_of : List ℕ → Marks → SideState
side_of bytes m = record { bytes = bytes; touched = m.touched; shifted = m.shifted }

-- the sides of a disk now
abbrev pub disk_state : Disk → Side → SideState
disk_state disk = state_now (bytes_of disk) disk.steps.items

pub marks_push : (side : Side) (m : Marks) (steps : List Step) (step : Step)
    → marks_after side m (steps ++ step ∷ []) ≡ mark_step side (marks_after side m steps) step
marks_push side m [] step = refl
marks_push side m (first ∷ steps) step = marks_push side (mark_step side m first) steps step

undo_push : (side : Side) (steps : List Step) (step : Step) (bytes : List ℕ)
    → undo side (steps ++ step ∷ []) bytes ≡ undo side steps (undo_step side step bytes)
undo_push side [] step bytes = refl
undo_push side (first ∷ steps) step bytes = ap (undo_step side first) (undo_push side steps step bytes)

told_old : (steps : List Step) (step : Step) (i : ℕ) → i < length steps → told_at (steps ++ step ∷ []) i ≡ told_at steps i
told_old [] step i within = absurd (omega arith)
told_old (first ∷ steps) step zero within = refl
told_old (first ∷ steps) step (suc i) within = told_old steps step i (omega arith)

told_last : (steps : List Step) (step : Step) (i : ℕ) → i ≡ length steps → told_at (steps ++ step ∷ []) i ≡ step.told
told_last [] step i is = ap (told_at (step ∷ [])) is
told_last (first ∷ steps) step zero is = absurd (omega arith)
told_last (first ∷ steps) step (suc i) is = told_last steps step i (omega arith)

-- after all steps and outputs it is now
module _ (files : Side → List ℕ) (steps : List Step) where
  at_end : (k : ℕ) → length steps ≤ k → state_at files steps k ≡ state_now files steps
  at_end k all = λ i side. side_of (undo side (drop_all k steps all i) (files side)) (marks side (take_all k steps all i))

  all_now : (outputs : List Output) (t : ℕ) (left : Contents) (told : List Output) (since : Since files steps outputs t left told)
      → length steps ≤ since.done → length outputs ≤ since.put → Possible (state_now files steps) outputs left told
  all_now outputs t left told since done put =
      subst₂ (λ (s : Side → SideState) (l : List Output). Possible s l left told) (at_end since.done done) (take_all since.put outputs put) since.possible

  -- what is possible now has been possible since any earlier moment
  pub since_now : (outputs : List Output) → ToldFits steps outputs → (t : ℕ) (left : Contents) (told : List Output) → t ≤ length steps + length outputs
      → Possible (state_now files steps) outputs left told → Since files steps outputs t left told
  since_now outputs fits t left told le possible = record {
    done = length steps;
    put = length outputs;
    from = le;
    within = omega arith;
    put_within = omega arith;
    before = fits;
    after = λ i from below. absurd (omega arith);
    possible = subst₂ (λ (s : Side → SideState) (l : List Output). Possible s l left told) (sym (at_end (length steps) (omega arith)))
        (sym (take_all (length outputs) outputs (omega arith))) possible;
  }

  -- since now only what is possible now
  pub now_only : (outputs : List Output) (left : Contents) (told : List Output) → Since files steps outputs (length steps + length outputs) left told
      → Possible (state_now files steps) outputs left told
  now_only outputs left told since = all_now outputs (length steps + length outputs) left told since (omega arith) (omega arith)

  -- the record as it was
  pub elapses_same : (outputs : List Output) (H : Contents → List Output → Type 0)
      → Elapses (length steps + length outputs) (length steps + length outputs) (Since files steps outputs) (Since files steps outputs) H
  elapses_same outputs H = record { later = omega arith; nothing_else = λ t left told le since. inl since; keeps = λ t left told le since. since }

  -- what a read gives is one of the contents that a crash may leave
  pub may_read_now : FirmFits files steps → (side : Side) → MayLeave (state_now files steps side) (state_now files steps side).bytes
  may_read_now fits side = record { no_shorter = fits side; no_longer = λ is. refl; same = λ p below clean. refl }

-- one disk call more
module _ (files later : Side → List ℕ) (steps : List Step) (step : Step) (outputs : List Output) (told_is : step.told ≡ length outputs)
    (undoes : (side : Side) → undo_step side step (later side) ≡ files side) where
  -- an earlier moment
  at_earlier : (k : ℕ) → k ≤ length steps → state_at later (steps ++ step ∷ []) k ≡ state_at files steps k
  at_earlier k within = λ i side. side_of (bytes side i) (marks side (take-append-le k steps (step ∷ []) within i))
    where
      bytes : (side : Side) → undo side (drop k (steps ++ step ∷ [])) (later side) ≡ undo side (drop k steps) (files side)
      bytes side = ap (λ (l : List Step). undo side l (later side)) (drop-append-le k steps (step ∷ []) within)
          ∙ undo_push side (drop k steps) step (later side) ∙ ap (undo side (drop k steps)) (undoes side)

  keeps : (t : ℕ) (left : Contents) (told : List Output) → Since files steps outputs t left told → Since later (steps ++ step ∷ []) outputs t left told
  keeps t left told since = record {
    done = since.done;
    put = since.put;
    from = since.from;
    within = omega (arith, length-append steps (step ∷ []));
    put_within = since.put_within;
    before = λ i below. omega (arith, told_old steps step i (omega arith), since.before i below);
    after = λ i from below. elim (cases_lt i (length steps)) [
      | inl old ↦ omega (arith, told_old steps step i old, since.after i from old)
      | inr last ↦ omega (arith, told_last steps step i (omega (arith, length-append steps (step ∷ []))))
    ];
    possible = subst (λ (s : Side → SideState). Possible s (take since.put outputs) left told) (sym (at_earlier since.done since.within)) since.possible;
  }

  was_or_is : (t : ℕ) (left : Contents) (told : List Output) → Since later (steps ++ step ∷ []) outputs t left told
      → Since files steps outputs t left told ⊎ Possible (state_now later (steps ++ step ∷ [])) outputs left told
  was_or_is t left told since = elim (cases_lt (length steps) since.done) [
    | inl new ↦ inr (all_now later (steps ++ step ∷ []) outputs t left told since (omega (arith, length-append steps (step ∷ [])))
        (omega (arith, told_last steps step (length steps) refl, since.before (length steps) new)))
    | inr old ↦ inl (record {
      done = since.done;
      put = since.put;
      from = since.from;
      within = old;
      put_within = since.put_within;
      before = λ i below. omega (arith, told_old steps step i (omega arith), since.before i below);
      after = λ i from below. omega (arith, told_old steps step i below, since.after i from (omega (arith, length-append steps (step ∷ []))));
      possible = subst (λ (s : Side → SideState). Possible s (take since.put outputs) left told) (at_earlier since.done old) since.possible;
    })
  ]

-- one step more on a side of a disk
module _ (old now : Disk) (side : Side) (told : ℕ) (outputs : List Output) (told_is : told ≡ length outputs) (effect : Marks → Marks)
    (adds : AddsStep side told old now effect) (rest : bytes_of now (other side) ≡ bytes_of old (other side)) where
  marks_new : (q : Side) (b : Bool) → is_side q adds.step.side ≡ b
      → marks q now.steps.items ≡ cond b (mark_change (marks q old.steps.items) adds.step.length adds.step.change) (marks q old.steps.items)
  marks_new q b is = ap (marks q) adds.last ∙ marks_push q no_marks old.steps.items adds.step
      ∙ ap (λ b. cond b (mark_change (marks q old.steps.items) adds.step.length adds.step.change) (marks q old.steps.items)) is

  on_side : is_side side adds.step.side ≡ true
  on_side = ap (is_side side) adds.side_is ∙ same_side side

  off_side : is_side (other side) adds.step.side ≡ false
  off_side = ap (is_side (other side)) adds.side_is ∙ other_side side

  undoes : (q : Side) → undo_step q adds.step (bytes_of now q) ≡ bytes_of old q
  undoes = each_side side (λ q. undo_step q adds.step (bytes_of now q) ≡ bytes_of old q)
      (ap (λ b. cond b (undo_change adds.step.change (bytes_of now side)) (bytes_of now side)) on_side ∙ adds.undoes)
      (ap (λ b. cond b (undo_change adds.step.change (bytes_of now (other side))) (bytes_of now (other side))) off_side ∙ rest)

  -- the side after the step
  pub this_side : disk_state now side ≡ side_of (bytes_of now side) (effect (marks side old.steps.items))
  this_side = ap (side_of (bytes_of now side)) (marks_new side true on_side ∙ adds.marked (marks side old.steps.items))

  -- the other is as it was
  pub that_side : disk_state now (other side) ≡ disk_state old (other side)
  that_side = λ i. side_of (rest i) (marks_new (other side) false off_side i)

  pub told_fits : ToldFits old.steps.items outputs → ToldFits now.steps.items outputs
  told_fits fits = subst (λ l. ToldFits l outputs) (sym adds.last) (λ i below. elim (cases_lt i (length old.steps.items)) [
    | inl before ↦ omega (arith, told_old old.steps.items adds.step i before, fits i before)
    | inr last ↦
        omega (arith, told_last old.steps.items adds.step i (omega (arith, length-append old.steps.items (adds.step ∷ []))), adds.told_is)
  ])

  pub firm_fits : FirmFits (bytes_of old) old.steps.items → firm (disk_state now side) ≤ length (bytes_of now side) → FirmFits (bytes_of now) now.steps.items
  firm_fits fits here = each_side side (λ q. firm (disk_state now q) ≤ length (bytes_of now q)) here
      (subst (λ s. firm s ≤ length s.bytes) (sym that_side) (fits (other side)))

  pub elapses : (H : Contents → List Output → Type 0) → ToldFits old.steps.items outputs
      → ((left : Contents) (told : List Output) → Possible (disk_state now) outputs left told → H left told ⊎ Possible (disk_state old) outputs left told)
      → Elapses (length old.steps.items + length outputs) (length now.steps.items + length outputs) (Since (bytes_of old) old.steps.items outputs)
      (Since (bytes_of now) now.steps.items outputs) H
  elapses H fits here = subst (λ l. Elapses (length old.steps.items + length outputs) (length l + length outputs)
      (Since (bytes_of old) old.steps.items outputs) (Since (bytes_of now) l outputs) H) (sym adds.last) (record {
        later = omega (arith, length-append old.steps.items (adds.step ∷ []));
        nothing_else = λ t left told le since. ⊎_elim (λ was. inl was)
            (λ is. ⊎_elim (λ h. inr h) (λ was. inl (since_now (bytes_of old) old.steps.items outputs fits t left told le was))
            (here left told (subst (λ l. Possible (state_now (bytes_of now) l) outputs left told) (sym adds.last) is)))
            (was_or_is (bytes_of old) (bytes_of now) old.steps.items adds.step outputs (adds.told_is ∙ told_is) undoes t left told since);
        keeps = λ t left told le. keeps (bytes_of old) (bytes_of now) old.steps.items adds.step outputs (adds.told_is ∙ told_is) undoes t left told;
      })

  -- where the side is within a bound, each moment is
  pub within : (bound : SideState) (left : Contents) (told : List Output) → ((l : List ℕ) → MayLeave (disk_state now side) l → MayLeave bound l)
      → Possible (disk_state now) outputs left told → Within side bound (disk_state old) outputs left told
  within bound left told less possible = record {
    this = less (left side) (possible.each side);
    rest = subst (λ s. MayLeave s (left (other side))) that_side (possible.each (other side));
    outlet = possible.outlet;
  }

-- one output more
pub elapses_put : (files : Side → List ℕ) (steps : List Step) (outputs : List Output) (output : Output) → ToldFits steps outputs
    → Elapses (length steps + length outputs) (length steps + length (outputs ++ output ∷ [])) (Since files steps outputs)
    (Since files steps (outputs ++ output ∷ [])) (Possible (state_now files steps) (outputs ++ output ∷ []))
elapses_put files steps outputs output fits = record {
  later = omega (arith, length-append outputs (output ∷ []));
  nothing_else = λ t left told le since. was t left told since;
  keeps = λ t left told le since. record {
    done = since.done;
    put = since.put;
    from = since.from;
    within = since.within;
    put_within = omega (arith, length-append outputs (output ∷ []));
    before = since.before;
    after = since.after;
    possible = subst (λ (l : List Output). Possible (state_at files steps since.done) l left told)
        (sym (take-append-le since.put outputs (output ∷ []) since.put_within)) since.possible;
  };
}
  where
    -- the new one is put after all steps
    all_done : (t : ℕ) (left : Contents) (told : List Output) (since : Since files steps (outputs ++ output ∷ []) t left told)
        → length outputs < since.put → length steps ≤ since.done
    all_done t left told since new = elim (cases_lt since.done (length steps)) [
      | inl below ↦ absurd (omega (arith, since.after since.done (omega arith) below, fits since.done below))
      | inr all ↦ all
    ]

    was : (t : ℕ) (left : Contents) (told : List Output) → Since files steps (outputs ++ output ∷ []) t left told
        → Since files steps outputs t left told ⊎ Possible (state_now files steps) (outputs ++ output ∷ []) left told
    was t left told since = elim (cases_lt (length outputs) since.put) [
      | inl new ↦ inr (all_now files steps (outputs ++ output ∷ []) t left told since (all_done t left told since new)
          (omega (arith, length-append outputs (output ∷ []))))
      | inr old ↦ inl (record {
        done = since.done;
        put = since.put;
        from = since.from;
        within = since.within;
        put_within = old;
        before = since.before;
        after = since.after;
        possible = subst (λ (l : List Output). Possible (state_at files steps since.done) l left told)
            (take-append-le since.put outputs (output ∷ []) old) since.possible;
      })
    ]
