-- Refusals: the number of each, the number that it carries, and its text; the first of several reasons, and the answer
-- of a decision.
use Rattle.std.specs.Prelude.{ℕ, List, [], ◌∷◌, ◌++◌, Option, Some, None, Result, Ok, Err, codes, unwrap_or}
use Rattle.std.specs.Fmt.{decimal}
use Rattle.cc_messages.specs.declared.refusal.Refusal.{Refusal}
use Rattle.cc_messages.specs.declared.refusal.Refusal.TheVariants.{Left, NotEntered, AlreadyEntered, NotJoined, Old, Gap, NothingToAck, TooManyNodes}
use Rattle.cc_messages.specs.declared.refusal.Refusal.TheVariants.{TooManySessions, Repeat, Stale, Skip, Busy, SetFull, OutboxFull, Spent, NoMemory}
use Rattle.cc_messages.specs.declared.refusal.Refusal.TheVariants.{QueueFull}

abbrev pub number_of : Refusal → ℕ
number_of Left = 1
number_of NotEntered = 2
number_of AlreadyEntered = 3
number_of NotJoined = 4
number_of (Old heard) = 5
number_of (Gap heard) = 6
number_of NothingToAck = 7
number_of TooManyNodes = 8
number_of TooManySessions = 9
number_of Repeat = 10
number_of (Stale last) = 11
number_of (Skip last) = 12
number_of Busy = 13
number_of SetFull = 14
number_of OutboxFull = 15
number_of Spent = 16
number_of NoMemory = 17
number_of QueueFull = 18

abbrev pub name_of : Refusal → List ℕ
name_of Left = codes "Left"
name_of NotEntered = codes "NotEntered"
name_of AlreadyEntered = codes "AlreadyEntered"
name_of NotJoined = codes "NotJoined"
name_of (Old heard) = codes "Old"
name_of (Gap heard) = codes "Gap"
name_of NothingToAck = codes "NothingToAck"
name_of TooManyNodes = codes "TooManyNodes"
name_of TooManySessions = codes "TooManySessions"
name_of Repeat = codes "Repeat"
name_of (Stale last) = codes "Stale"
name_of (Skip last) = codes "Skip"
name_of Busy = codes "Busy"
name_of SetFull = codes "SetFull"
name_of OutboxFull = codes "OutboxFull"
name_of Spent = codes "Spent"
name_of NoMemory = codes "NoMemory"
name_of QueueFull = codes "QueueFull"

-- the last number that was heard from the node, or that the session has
abbrev pub carried_by : Refusal → Option ℕ
carried_by (Old heard) = Some heard
carried_by (Gap heard) = Some heard
carried_by (Stale last) = Some last
carried_by (Skip last) = Some last
carried_by _ = None

abbrev pub value_of : Refusal → ℕ
value_of refusal = unwrap_or (carried_by refusal) 0

-- its number and its name, and what it carries
abbrev pub carried_text : Option ℕ → List ℕ
carried_text None = []
carried_text (Some value) = codes " " ++ decimal value

abbrev pub refusal_text : Refusal → List ℕ
refusal_text refusal = decimal (number_of refusal) ++ codes " " ++ name_of refusal ++ carried_text (carried_by refusal)

-- of the reasons that hold, the first
abbrev pub first_of : List (Option Refusal) → Option Refusal
first_of [] = None
first_of (None ∷ reasons) = first_of reasons
first_of (Some reason ∷ reasons) = Some reason

-- the answer of a decision
abbrev pub decided : Option Refusal → Result (Unit {0}) Refusal
decided None = Ok tt
decided (Some reason) = Err reason
