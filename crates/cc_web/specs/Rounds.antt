-- Asks under sessions of the node's own.
--     round_of       the steps of one: a key is taken, asked under, and given back with what became of its ask
--     IsRound        what one round does
--     Rounds         rounds, one after the other, with what became of their asks, the last one first
--     IsBehind       somebody else used the session, and nothing stands under the key: another one is taken
use Rattle.std.specs.Prelude.{◌≡◌, ⊤, ℕ, Bool, true, false, List, [], ◌∷◌, ◌++◌, Option, Some, None}
use Rattle.std.specs.List.{AllByRecursion}
use Rattle.cc_messages.specs.declared.command.Command.{Command}
use Rattle.cc_messages.specs.declared.refusal.Refusal.TheVariants as refusal
use Rattle.cc_web.specs.declared.key.AskKey.{AskKey}
use Rattle.cc_web.specs.declared.asked.Asked.{Asked}
use Rattle.cc_web.specs.declared.asked.Asked.TheVariants as asked
use Rattle.cc_web.specs.Steps.{Step, Looks, Pauses, Takes, Gives, left_in}
use Rattle.cc_web.specs.Trials.{fate_of, IsTrial}

abbrev pub round_of : AskKey → List Step → Asked → List Step
round_of key trial became = Gives key (fate_of key became) ∷ (trial ++ Takes (Some key) ∷ [])

pub record IsRoundOf (command : Command) (start : ℕ) (steps : List Step) (became : Asked) : Type 0 where
  pub key : AskKey
  pub trial : List Step
  pub tried : IsTrial true key command start trial became
  pub is_round : steps ≡ round_of key trial became

-- none where no session is free
abbrev pub IsRound : Command → ℕ → List Step → Option Asked → Type 0
IsRound command start steps None = steps ≡ Takes None ∷ []
IsRound command start steps (Some became) = IsRoundOf command start steps became

pub data Rounds (command : Command) (total : ℕ) : List Step → List Asked → Type 0 where
  begin : Rounds command total [] []
  again : {round before : List Step} {became : Asked} {earlier : List Asked} → IsRoundOf command (left_in total before) round became
      → Rounds command total before earlier → Rounds command total (round ++ before) (became ∷ earlier)
  looked : {before : List Step} {earlier : List Asked} (millis : ℕ) → Rounds command total before earlier
      → Rounds command total (Looks millis ∷ before) earlier
  paused : {before : List Step} {earlier : List Asked} (millis : ℕ) → Rounds command total before earlier
      → Rounds command total (Pauses millis ∷ before) earlier

abbrev pub is_behind : Asked → Bool
is_behind (asked.Answered answer) = false
is_behind asked.Late = false
is_behind (asked.Refused refusal.Repeat) = true
is_behind (asked.Refused (refusal.Stale last)) = true
is_behind (asked.Refused (refusal.Skip last)) = true
is_behind (asked.Refused _) = false

abbrev pub IsBehind : Asked → Type 0
IsBehind became = is_behind became ≡ true

-- Each session but the last one was used by somebody else, and so was that one only where no time is left. None: no session is free.
abbrev pub IsOwn : Command → ℕ → List Step → Option Asked → Type 0
IsOwn what total steps (Some became) =
    (earlier : List Asked) × Rounds what total steps (became ∷ earlier) × AllByRecursion IsBehind earlier
    × (IsBehind became → left_in total steps ≡ 0)
IsOwn what total steps None =
    (earlier : List Asked) × (before : List Step) × (steps ≡ Takes None ∷ before) × Rounds what total before earlier × AllByRecursion IsBehind earlier
