-- What a turn does, and what the turner keeps.
--     turned_never, turned_full            an engine that had failed;  one without room
--     turned, turned_failed                a batch that went through the engine;  one that was given up
--     kept_on, kept_failed                 what the turner keeps then
use Rattle.std.proofs.Common.{◌≡◌, ℕ, ◌+◌, ◌≤◌, true, false, List, [], ◌++◌, length, take, refl, sym, ap, ◌∙◌, subst, append-nil}
use Rattle.std.specs.Prelude.{Option, Some, None, Result, Ok, Err}
use Rattle.cc_site.specs.declared.site.Site.{Ghosts}
use Rattle.cc_site.specs.declared.site.DeviceFault.{DeviceFault}
use Rattle.cc_site.specs.Runs.{OnlyNow}
use Rattle.cc_node.specs.Node.{Node, after}
use Rattle.cc_journal.specs.declared.entry.Entry.{Entry}
use Rattle.cc_journal.specs.Batches.{AreLawful, events_in}
use Rattle.cc_flush.specs.Engine.{Engine}
use Rattle.cc_flush.specs.declared.flusher.Failed.{Failed}
use Rattle.cc_intake.specs.declared.turner.Turned.{Turned}
use Rattle.cc_intake.specs.Histories.{life_limit}
use Rattle.cc_intake.specs.Turners.{Turning, popped, IsTurner}
use Rattle.cc_flush.specs.Commits.{Flushes, FlushFails}
use Rattle.cc_intake.specs.Turns.{IsDone, Gathers, Turns}
use Rattle.cc_intake.proofs.Batches.{HandedOn, hands_on}
use Rattle.cc_intake.proofs.Flushed.{flushed_none}

module _ {D : Type 0} (s : Ghosts D) (reached : ℕ → List Entry → Type 0) where
  abbrev IsTurn : Turning D → Turning D → Result Turned Failed → Type 0
  IsTurn = Turns s reached

  abbrev Goes : List Entry → Engine D → Engine D → Type 0
  Goes = Flushes s

  abbrev Fails : List Entry → Engine D → Engine D → DeviceFault → Type 0
  Fails = FlushFails s

  pub turned_never : (t : Turning D) (f : Failed) → t.engine.failed ≡ Some f.fault → IsTurn t t (Err f)
  turned_never t f is = record {
    batch = [];
    more = [];
    handed = sym (append-nil t.handed);
    behind = sym (append-nil (popped t));
    done = tt;
    engine = λ none. absurd (let e = sym none ∙ is in cc);
  }

  pub turned_full : (t : Turning D) → t.engine.owes ≡ false → t.engine.failed ≡ None
      → (s.honest t.engine.site → OnlyNow s t.engine.site)
      → IsTurn t t (Ok (record { events = 0; full = true }))
  turned_full t owes none only = record {
    batch = [];
    more = [];
    handed = sym (append-nil t.handed);
    behind = sym (append-nil (popped t));
    done = (refl, λ not_full. absurd cc);
    engine = flushed_none s [] t.engine refl owes none only;
  }

  -- n entries were handed over of those popped before, and m more of those popped now
  module _ (opening : Node) (before now : List Entry) (n m : ℕ) (kept taken left kept' : Option Entry) (batch : List Entry) (old new : Engine D)
      (took : taken ≡ kept) (is : IsTurner opening before n kept old) (put : kept' ≡ left) (gathered : Gathers before taken batch left now)
      (len : m ≡ length batch) (lawful : AreLawful opening now) (limit : length now ≤ life_limit) where
    on : HandedOn opening before now n m kept' batch
    on = hands_on opening before now n m kept taken kept' batch took is.whole is.count
        (subst (λ (k : Option Entry). Gathers before taken batch k now) (sym put) gathered) len lawful limit

    pub lawful_batch : old.failed ≡ None → AreLawful old.twin batch
    lawful_batch none = subst (λ (s : Node). AreLawful s batch) (sym (is.twin none)) on.lawful

    abbrev pub was : ℕ → Turning D
    was finds = record { handed = take n before; kept = kept; finds = finds; engine = old }

    abbrev pub becomes : ℕ → Turning D
    becomes finds = record { handed = take (n + m) now; kept = kept'; finds = finds; engine = new }

    pub turned : (finds finds' : ℕ) → IsDone reached batch left now finds finds' → Goes batch old new
        → IsTurn (was finds) (becomes finds') (Ok (record { events = m; full = false }))
    turned finds finds' done run = record {
      batch = batch;
      more = on.more;
      handed = on.handed;
      behind = on.behind ∙ ap (λ (l : List Entry). l ++ on.more) is.whole;
      done = (
        len,
        λ _. subst (λ (l : List Entry). IsDone reached batch kept' l finds finds') on.whole
            (subst (λ (k : Option Entry). IsDone reached batch k now finds finds') (sym put) done),
      );
      engine = run;
    }

    pub turned_failed : (finds finds' : ℕ) (f : Failed) → Fails batch old new f.fault → IsTurn (was finds) (becomes finds') (Err f)
    turned_failed finds finds' f run = record {
      batch = batch;
      more = on.more;
      handed = on.handed;
      behind = on.behind ∙ ap (λ (l : List Entry). l ++ on.more) is.whole;
      done = tt;
      engine = λ none. run;
    }

    pub kept_on : old.failed ≡ None → Goes batch old new → IsTurner opening now (n + m) kept' new
    kept_on none run = record {
      whole = on.whole;
      count = on.count;
      limit = on.limit;
      owes = run.owes;
      twin = λ goes_on. run.twin ∙ ap (λ (s : Node). after s (events_in batch)) (is.twin none) ∙ sym on.state;
    }

    pub kept_failed : (fault : DeviceFault) → Fails batch old new fault → IsTurner opening now (n + m) kept' new
    kept_failed fault run = record {
      whole = on.whole;
      count = on.count;
      limit = on.limit;
      owes = run.owes;
      twin = λ none. absurd (let e = sym none ∙ run.failed in cc);
    }
