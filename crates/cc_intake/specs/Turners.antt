-- A turner.
--     Turning                 what it has handed to its engine, what it keeps, how often it found the queue empty, and its engine
--     listed, popped          an entry that is kept, as a list;  all that was popped
--     TellsEach               that what is told holds of every count
--     IsTurner                what every turner keeps
use Rattle.std.specs.Prelude.{◌≡◌, ◌≤◌, ℕ, false, List, [], ◌∷◌, ◌++◌, length, take, Option, None, Some, refl}
use Rattle.std.specs.Coded.{Coded, code_by, coded×, coded_ℕ, coded_option}
use Rattle.cc_node.specs.Node.{Node, after}
use Rattle.cc_journal.specs.declared.entry.Entry.{Entry}
use Rattle.cc_journal.specs.contracts.entry.Entry as entry
use Rattle.cc_journal.specs.Batches.{events_in}
use Rattle.cc_journal.specs.Codes.{entries_code}
use Rattle.cc_flush.specs.Engine.{Engine, engine_code}
use Rattle.cc_intake.specs.Histories.{life_limit}

pub record Turning (D : Type 0) : Type 0 where
  pub handed : List Entry
  -- popped behind them, for the next turn
  pub kept : Option Entry
  pub finds : ℕ
  pub engine : Engine D

abbrev pub turning_code : {D : Type 0} → Coded D → Coded (Turning D)
turning_code {D} site_code =
    code_by (List Entry × (Option Entry × (ℕ × Engine D)))
    (coded× entries_code (coded× (coded_option (entry.the_row).coded) (coded× coded_ℕ (engine_code site_code))))
    (λ t. (t.handed, (t.kept, (t.finds, t.engine)))) (λ p. record { handed = p.0; kept = p.1.0; finds = p.1.1.0; engine = p.1.1.1 }) (λ _. refl)

abbrev pub listed : Option Entry → List Entry
listed None = []
listed (Some e) = e ∷ []

-- what was handed over, and then what is kept
abbrev pub popped : {D : Type 0} → Turning D → List Entry
popped t = t.handed ++ listed t.kept

-- Of the entries popped all but the kept one were handed over. The engine owes nothing, and while it goes on it stands where
-- they lead from the node that was opened.
pub record IsTurner {D : Type 0} (opening : Node) (entries : List Entry) (flushed : ℕ) (kept : Option Entry) (engine : Engine D) : Type 0 where
  pub whole : entries ≡ take flushed entries ++ listed kept
  pub count : flushed ≡ length (take flushed entries)
  pub limit : flushed ≤ life_limit
  pub owes : engine.owes ≡ false
  pub twin : engine.failed ≡ None → engine.twin ≡ after opening (events_in (take flushed entries))

-- What is told of a number of events holds of every number. Only these two lemmas make it and use it: so whoever is given a
-- turner, which keeps it, has no such telling but by a turn.
pub TellsEach : (ℕ → Type 0) → Type 0
TellsEach told = (count : ℕ) → told count

pub tells_each : (told : ℕ → Type 0) → ((count : ℕ) → told count) → TellsEach told
unfolding TellsEach
tells_each told each = each

pub tells : (told : ℕ → Type 0) → TellsEach told → (count : ℕ) → told count
unfolding TellsEach
tells told each = each
