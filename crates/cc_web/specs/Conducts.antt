-- Which steps an order takes, and which reply they lead to.
--     Tries         an ask under a key of the client's own
--     Owns          an ask under a session of the node's own
--     Shows         collects until two in a row show the same
--     Follows       collects until one shows something else than what is known
--     Conducts      what an order does
use Rattle.std.specs.Prelude.{◌≡◌, ℕ, ◌+◌, Bool, true, false, List, [], ◌∷◌, ◌++◌, Option, Some, None, Result, Ok, Err, if◌then◌else◌}
use Rattle.std.specs.List.{AllByRecursion}
use Rattle.cc_views.specs.Rows.{ViewMap, rows_of}
use Rattle.cc_views.specs.Merge.{IsAtMost}
use Rattle.cc_messages.specs.declared.answer.Answer.TheVariants as answers
use Rattle.cc_messages.specs.declared.command.Command.{Command}
use Rattle.cc_messages.specs.declared.command.Command.TheVariants as command
use Rattle.cc_web.specs.Changes.{is_news}
use Rattle.cc_web.specs.OrderLaws.{stores}
use Rattle.cc_web.specs.declared.key.AskKey.{AskKey}
use Rattle.cc_web.specs.declared.order.Task.{Task}
use Rattle.cc_web.specs.declared.order.Task.TheVariants as task
use Rattle.cc_web.specs.declared.order.WebOrder.{WebOrder}
use Rattle.cc_web.specs.declared.problem.Problem.TheVariants as problem
use Rattle.cc_web.specs.declared.asked.Asked.{Asked}
use Rattle.cc_web.specs.declared.asked.Asked.TheVariants as asked
use Rattle.cc_web.specs.declared.reply.Reply.{Reply}
use Rattle.cc_web.specs.declared.reply.Reply.TheVariants as reply
use Rattle.cc_web.specs.Replies.{reply_of, own_reply, last_reply_of}
use Rattle.cc_web.specs.Rounds.{Rounds, IsOwn}
use Rattle.cc_web.specs.Steps.{Step, Begins, Takes, left_in}
use Rattle.cc_web.specs.Trials.{IsTrial}

-- steps behind the beginning of so much time
abbrev pub IsTimed : ℕ → List Step → List Step → Type 0
IsTimed millis inner steps = steps ≡ inner ++ Begins millis ∷ []

-- under a key of the client's own each ask is this one
pub record Tries (key : AskKey) (what : Command) (millis : ℕ) (steps : List Step) (became : Asked) : Type 0 where
  pub inner : List Step
  pub timed : IsTimed millis inner steps
  pub tried : IsTrial false key what millis inner became

pub record Owns (what : Command) (millis : ℕ) (steps : List Step) (became : Option Asked) : Type 0 where
  pub inner : List Step
  pub timed : IsTimed millis inner steps
  pub owned : IsOwn what millis inner became

-- the view that was collected, or what else became of the ask
abbrev pub seen_of : Asked → Result ViewMap Asked
seen_of (asked.Answered (answers.Seen view)) = Ok view
seen_of became = Err became

-- what the last collect that was answered showed, and how many there were
abbrev pub last_seen : List Asked → Option ViewMap
last_seen [] = None
last_seen (asked.Answered (answers.Seen view) ∷ earlier) = Some view
last_seen (became ∷ earlier) = last_seen earlier

abbrev pub collects_in : List Asked → ℕ
collects_in [] = 0
collects_in (asked.Answered (answers.Seen view) ∷ earlier) = collects_in earlier + 1
collects_in (became ∷ earlier) = collects_in earlier

-- each is at most the other: it shows the same store of each node
abbrev pub Agrees : Option ViewMap → ViewMap → Type 0
Agrees None view = ⊥
Agrees (Some last) view = IsAtMost last view × IsAtMost view last

pub data Shows (start : ℕ) : List Step → Reply → Type 0 where
  -- two collects in a row show the same
  agreed : {steps : List Step} (earlier : List Asked) (view : ViewMap)
      → Rounds command.Collect start steps (asked.Answered (answers.Seen view) ∷ earlier) → Agrees (last_seen earlier) view
      → Shows start steps (reply.Answer (answers.Seen view) (Some (collects_in earlier + 1)))
  -- a collect isn't answered
  ended : {steps : List Step} (earlier : List Asked) (became : Asked) → Rounds command.Collect start steps (became ∷ earlier)
      → seen_of became ≡ Err became → Shows start steps (own_reply false (Some became))
  -- no session is free
  full : {before : List Step} (earlier : List Asked) → Rounds command.Collect start before earlier
      → Shows start (Takes None ∷ before) (reply.Problem problem.NoSession)
  -- no time is left
  late : {steps : List Step} (earlier : List Asked) → Rounds command.Collect start steps earlier → left_in start steps ≡ 0
      → Shows start steps (reply.Problem problem.NoSnapshot)

-- a collect showed just what was known
abbrev pub IsKnown : Option ℕ → Asked → Type 0
IsKnown known became = (view : ViewMap) × (became ≡ asked.Answered (answers.Seen view)) × (is_news known (rows_of view) ≡ false)

-- Each collect before showed what was known.
pub data Follows (known : Option ℕ) (start : ℕ) : List Step → Reply → Type 0 where
  -- a collect shows something else
  changed : {steps : List Step} (earlier : List Asked) (view : ViewMap)
      → Rounds command.Collect start steps (asked.Answered (answers.Seen view) ∷ earlier) → AllByRecursion (IsKnown known) earlier
      → is_news known (rows_of view) ≡ true → Follows known start steps (reply.Changed view)
  -- a collect isn't answered
  unanswered : {steps : List Step} (earlier : List Asked) (became : Asked) → Rounds command.Collect start steps (became ∷ earlier)
      → AllByRecursion (IsKnown known) earlier → seen_of became ≡ Err became → Follows known start steps (own_reply false (Some became))
  -- no session is free
  crowded : {before : List Step} (earlier : List Asked) → Rounds command.Collect start before earlier → AllByRecursion (IsKnown known) earlier
      → Follows known start (Takes None ∷ before) (reply.Problem problem.NoSession)
  -- no time is left
  unchanged : {steps : List Step} (earlier : List Asked) → Rounds command.Collect start steps earlier → AllByRecursion (IsKnown known) earlier
      → left_in start steps ≡ 0 → Follows known start steps reply.Unchanged

abbrev pub ConductsAsk : Option AskKey → Command → ℕ → List Step → Reply → Type 0
ConductsAsk (Some key) what millis steps r = (became : Asked) × Tries key what millis steps became × (r ≡ reply_of (stores what) became)
ConductsAsk None what millis steps r = (became : Option Asked) × Owns what millis steps became × (r ≡ own_reply (stores what) became)

abbrev pub ConductsTask : Task → Option AskKey → ℕ → List Step → Reply → Type 0
ConductsTask (task.Overview is_html) key millis steps r = (steps ≡ []) × (r ≡ reply.Overview is_html)
ConductsTask (task.Preflight place) key millis steps r = (steps ≡ []) × (r ≡ reply.Preflight place)
ConductsTask (task.LastRequest session) key millis steps r =
    (became : Asked) × Tries (record { session = session; request = 0 }) command.Collect millis steps became × (r ≡ last_reply_of session became)
ConductsTask task.Snapshot key millis steps r = (inner : List Step) × IsTimed millis inner steps × Shows millis inner r
ConductsTask (task.Changes known) key millis steps r = (inner : List Step) × IsTimed millis inner steps × Follows known millis inner r
ConductsTask (task.Ask what) key millis steps r = ConductsAsk key what millis steps r

abbrev pub Conducts : WebOrder → List Step → Reply → Type 0
Conducts order steps r = ConductsTask order.task order.key order.timeout_ms steps r
