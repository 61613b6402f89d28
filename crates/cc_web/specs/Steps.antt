-- What a request does with its node, one step after the other.
--     Step           one call of its own
--     Leads          steps that lead from one state to another, the last one first
--     left_in        how many milliseconds are left after them
--     after_wait     what becomes of an ask whose answer is waited for
use Rattle.std.specs.Prelude.{◌≡◌, ℕ, ◌-◌, min, List, [], ◌∷◌, Option, Some, None}
use Rattle.cc_messages.specs.declared.answer.Answer.{Answer}
use Rattle.cc_messages.specs.declared.command.Command.{Command}
use Rattle.cc_web.specs.declared.key.AskKey.{AskKey}
use Rattle.cc_web.specs.declared.own_sessions.Fate.{Fate}
use Rattle.cc_web.specs.declared.asked.Asked.{Asked}
use Rattle.cc_web.specs.declared.asked.Asked.TheVariants as asked

pub data Step : Type 0 where
  -- its time begins;  the clock says how much of it is left;  it waits
  Begins : (millis : ℕ) → Step
  Looks : (millis : ℕ) → Step
  Pauses : (millis : ℕ) → Step
  -- it asks;  it waits for the answer of an ask that was accepted before
  Asks : (key : AskKey) (command : Command) (became : Asked) → Step
  Waits : (key : AskKey) (answer : Option Answer) → Step
  -- it takes a session of the node's own, if one is free, and gives it back
  Takes : (key : Option AskKey) → Step
  Gives : (key : AskKey) (what : Fate) → Step

abbrev pub Leads : {S : Type 0} → (S → Step → S → Type 0) → S → List Step → S → Type 0
Leads does old [] new = new ≡ old
Leads {S} does old (step ∷ before) new = (mid : S) × Leads does old before mid × does mid step new

-- by what the clock said and by what was waited, where so many were left before
abbrev pub left_in : ℕ → List Step → ℕ
left_in start [] = start
left_in start (Begins millis ∷ before) = millis
left_in start (Looks millis ∷ before) = min millis (left_in start before)
left_in start (Pauses millis ∷ before) = left_in start before - millis
left_in start (Asks key command became ∷ before) = left_in start before
left_in start (Waits key answer ∷ before) = left_in start before
left_in start (Takes key ∷ before) = left_in start before
left_in start (Gives key what ∷ before) = left_in start before

-- an answer that is waited for comes, or it is late
abbrev pub after_wait : Option Answer → Asked
after_wait None = asked.Late
after_wait (Some answer) = asked.Answered answer
