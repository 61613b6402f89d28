-- What a turn does.
--     Fits                    a record takes one entry more
--     IsDone                  why a batch ends
--     Gathers                 what a batch was gathered from
--     Turns                   a batch was popped, and handed to the engine
use Rattle.std.specs.Prelude.{◌≡◌, ◌≤◌, ◌<◌, ◌⊎◌, ◌+◌, ℕ, List, [], ◌∷◌, ◌++◌, length, Option, None, IsSomeAnd, IsFalse, IfOk, Result, MatchResult}
use Rattle.cc_site.specs.declared.site.Site.{Ghosts}
use Rattle.cc_node_state.specs.Sides.{batch_limit, record_limit, events_spelling}
use Rattle.cc_journal.specs.declared.entry.Entry.{Entry}
use Rattle.cc_journal.specs.Batches.{events_in}
use Rattle.cc_flush.specs.declared.flusher.Failed.{Failed}
use Rattle.cc_intake.specs.declared.turner.Turned.{Turned}
use Rattle.cc_intake.specs.Turners.{Turning, listed, popped}
use Rattle.cc_flush.specs.Commits.{Flushes, FlushFails}

abbrev pub Fits : List Entry → Entry → Type 0
Fits batch e = (length batch < batch_limit) × (length (events_spelling (events_in (batch ++ e ∷ []))) ≤ record_limit)

-- It is full, or the entry kept behind it doesn't fit, or the queue was found empty: the finds rose by one, and at that look
-- all that was popped was all that had been pushed.
abbrev pub IsDone : (ℕ → List Entry → Type 0) → List Entry → Option Entry → List Entry → ℕ → ℕ → Type 0
IsDone reached batch kept all before now = (length batch ≡ batch_limit) ⊎ (IsSomeAnd kept (λ e. Fits batch e → ⊥) ⊎ ((now ≡ before + 1) × reached before all))

-- From the kept entry on, what was popped went into the batch, whole and in order, but for the entry that is kept now.
abbrev pub Gathers : List Entry → Option Entry → List Entry → Option Entry → List Entry → Type 0
Gathers before kept batch kept' now = (more : List Entry) × (now ≡ before ++ more) × (listed kept ++ more ≡ batch ++ listed kept')

pub record Turns {D : Type 0} (s : Ghosts D) (reached : ℕ → List Entry → Type 0) (old new : Turning D) (result : Result Turned Failed) : Type 0 where
  pub batch : List Entry
  pub more : List Entry
  -- it came from the front of what waited, whole and in order
  pub handed : new.handed ≡ old.handed ++ batch
  pub behind : popped new ≡ popped old ++ more
  pub done : IfOk result (λ t. (t.events ≡ length batch) × (IsFalse t.full → IsDone reached batch new.kept (popped new) old.finds new.finds))
  -- the engine made it durable and put its outputs; where it had not failed before, it failed in this batch
  pub engine : MatchResult result (λ _. Flushes s batch old.engine new.engine)
      (λ f. old.engine.failed ≡ None → FlushFails s batch old.engine new.engine f.fault)
