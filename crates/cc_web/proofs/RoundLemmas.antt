-- Rounds behind rounds.
--     round_leads         a key is taken, asked under, and given back
--     left_in-round       a round leaves what its trial leaves
use Rattle.std.proofs.Common.{◌≡◌, ℕ, List, [], ◌∷◌, ◌++◌, Option, Some, None, refl, subst}
use Rattle.cc_messages.specs.declared.command.Command.{Command}
use Rattle.cc_web.specs.declared.key.AskKey.{AskKey}
use Rattle.cc_web.specs.declared.asked.Asked.{Asked}
use Rattle.cc_web.specs.Steps.{Step, Takes, Gives, Leads, left_in}
use Rattle.cc_web.specs.Trials.{fate_of}
use Rattle.cc_web.specs.Rounds.{round_of, IsRound, IsRoundOf}
use Rattle.cc_web.proofs.StepLemmas.{Leads-append, left_in-append}

pub round_leads : {S : Type 0} (does : S → Step → S → Type 0) (key : AskKey) (trial : List Step) (became : Asked) (a b c d : S)
    → does a (Takes (Some key)) b → Leads does b trial c → does c (Gives key (fate_of key became)) d
    → Leads does a (round_of key trial became) d
round_leads does key trial became a b c d takes tries gives =
    (c, Leads-append does trial (Takes (Some key) ∷ []) a b c (a, refl, takes) tries, gives)

pub left_in-round : (start : ℕ) (key : AskKey) (trial : List Step) (became : Asked) → left_in start (round_of key trial became) ≡ left_in start trial
left_in-round start key trial became = left_in-append start trial (Takes (Some key) ∷ [])

pub round_some : (command : Command) (start : ℕ) (steps : List Step) (r : Option Asked) (became : Asked) → r ≡ Some became
    → IsRound command start steps r → IsRoundOf command start steps became
round_some command start steps r became e t = subst (λ (o : Option Asked). IsRound command start steps o) e t

pub round_none : (command : Command) (start : ℕ) (steps : List Step) (r : Option Asked) → r ≡ None → IsRound command start steps r → steps ≡ Takes None ∷ []
round_none command start steps r e t = subst (λ (o : Option Asked). IsRound command start steps o) e t
