-- An ask under one key, which is asked again while its refusal passes and time is left.
--     next_of       what becomes of a refused ask
--     fate_of       what became of the ask of a key
--     IsTrial       this is asked under this key until an ask is the last one, and became this
use Rattle.std.specs.Prelude.{◌≡◌, ⊤, ℕ, min, Bool, true, false, ◌&&◌, List, [], ◌∷◌, ◌++◌, Option, Some, None, if◌then◌else◌}
use Rattle.std.specs.List.{AllByRecursion}
use Rattle.cc_messages.specs.declared.answer.Answer.{Answer}
use Rattle.cc_messages.specs.declared.command.Command.{Command}
use Rattle.cc_messages.specs.declared.refusal.Refusal.{Refusal}
use Rattle.cc_messages.specs.declared.refusal.Refusal.TheVariants as refusal
use Rattle.cc_web.specs.Retries.{passes, after_refusal}
use Rattle.cc_web.specs.declared.key.AskKey.{AskKey}
use Rattle.cc_web.specs.declared.own_sessions.Fate.{Fate}
use Rattle.cc_web.specs.declared.own_sessions.Fate.TheVariants as fate
use Rattle.cc_web.specs.declared.problem.Problem.TheVariants as problem
use Rattle.cc_web.specs.declared.retry.Next.{Next}
use Rattle.cc_web.specs.declared.retry.Next.TheVariants as next
use Rattle.cc_web.specs.declared.asked.Asked.{Asked}
use Rattle.cc_web.specs.declared.asked.Asked.TheVariants as asked
use Rattle.cc_web.specs.Steps.{Step, Begins, Looks, Pauses, Asks, Waits, Takes, Gives, left_in, after_wait}

abbrev pub is_repeat : Refusal → Bool
is_repeat refusal.Repeat = true
is_repeat _ = false

-- Under a key of the node's own a repeat is no ask of this request: its answer is somebody else's.
abbrev pub next_of : Bool → Refusal → ℕ → Next
next_of is_own why left = if is_own && is_repeat why then next.End (problem.Refused why) else after_refusal why left

abbrev pub fate_of : AskKey → Asked → Fate
fate_of key (asked.Answered answer) = fate.Answered
fate_of key asked.Late = fate.Abandoned
fate_of key (asked.Refused refusal.Repeat) = fate.Behind key.request
fate_of key (asked.Refused (refusal.Stale last)) = fate.Behind last
fate_of key (asked.Refused (refusal.Skip last)) = fate.Behind last
fate_of key (asked.Refused _) = fate.Refused

-- its refusal passes
abbrev pub IsPassing : Asked → Type 0
IsPassing (asked.Answered answer) = ⊥
IsPassing (asked.Refused why) = passes why ≡ true
IsPassing asked.Late = ⊥

-- this is asked under this key, and is asked again
abbrev pub IsAgain : AskKey → Command → Step → Type 0
IsAgain key command (Begins millis) = ⊥
IsAgain key command (Looks millis) = ⊤
IsAgain key command (Pauses millis) = ⊤
IsAgain key command (Asks other what became) = (other ≡ key) × (what ≡ command) × IsPassing became
IsAgain key command (Waits other answer) = ⊥
IsAgain key command (Takes other) = ⊥
IsAgain key command (Gives other what) = ⊥

-- the last ask, where so much time is left before it
pub data IsFinal (is_own : Bool) (key : AskKey) (command : Command) (left : ℕ) : List Step → Asked → Type 0 where
  answered : (answer : Answer) → IsFinal is_own key command left (Asks key command (asked.Answered answer) ∷ []) (asked.Answered answer)
  late : IsFinal is_own key command left (Asks key command asked.Late ∷ []) asked.Late
  -- its refusal doesn't pass, or no time is left
  refused : (why : Refusal) (look : ℕ) → next_of is_own why (min look left) ≡ next.End (problem.Refused why)
      → IsFinal is_own key command left (Looks look ∷ Asks key command (asked.Refused why) ∷ []) (asked.Refused why)
  -- it was accepted before
  waited : (why : Refusal) (look : ℕ) (answer : Option Answer) → next_of is_own why (min look left) ≡ next.Wait
      → IsFinal is_own key command left (Waits key answer ∷ Looks look ∷ Asks key command (asked.Refused why) ∷ []) (after_wait answer)

pub record IsTrial (is_own : Bool) (key : AskKey) (command : Command) (start : ℕ) (steps : List Step) (became : Asked) : Type 0 where
  pub earlier : List Step
  pub again : AllByRecursion (IsAgain key command) earlier
  pub final : List Step
  pub ended : IsFinal is_own key command (left_in start earlier) final became
  pub joined : steps ≡ final ++ earlier

-- one ask, which is asked again, or is the last one
abbrev pub IsTry : Bool → AskKey → Command → ℕ → List Step → Option Asked → Type 0
IsTry is_own key command start steps None = AllByRecursion (IsAgain key command) steps
IsTry is_own key command start steps (Some became) = IsFinal is_own key command start steps became
