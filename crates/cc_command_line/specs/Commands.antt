-- The words of commands.
--     command_words            the words that a command is
--     IsStorable               a text of 1 to 64 bytes
--     IsSpoken, IsVisible      its text is a word of 1 to 64 visible ASCII characters
--     FitsNumber               its number is one that a command can have
--     SaysCommand, NoCommand   these words are that command;  they are none
use Rattle.std.specs.Prelude.{◌≡◌, ◌≤◌, ◌<◌, ◌^◌, ⊤, ℕ, List, [], ◌∷◌, length, codes}
use Rattle.std.specs.Fmt.{decimal}
use Rattle.std.specs.Int.{IsInRange}
use Rattle.std.specs.List.{AllByRecursion}
use Rattle.cc_views.specs.Limits.{text_limit}
use Rattle.cc_messages.specs.declared.command.Command.{Command}
use Rattle.cc_messages.specs.declared.command.Command.TheVariants as command

abbrev pub command_words : Command → List (List ℕ)
command_words (command.Store text) = codes "store" ∷ text ∷ []
command_words command.Collect = codes "collect" ∷ []
command_words (command.WriteMax n) = codes "max" ∷ decimal n ∷ []
command_words command.ReadMax = codes "readmax" ∷ []
command_words command.SetFlag = codes "flag" ∷ []
command_words command.ReadFlag = codes "readflag" ∷ []
command_words (command.AddMember n) = codes "add" ∷ decimal n ∷ []
command_words command.ReadSet = codes "readset" ∷ []

pub record IsStorable (text : List ℕ) : Type 0 where
  pub some : 1 ≤ length text
  pub fits : length text ≤ text_limit

pub record IsVisible (word : List ℕ) : Type 0 where
  pub some : 1 ≤ length word
  pub fits : length word ≤ text_limit
  pub visible : AllByRecursion (IsInRange 33 126) word

abbrev pub IsSpoken : Command → Type 0
IsSpoken (command.Store text) = IsVisible text
IsSpoken _ = ⊤

abbrev pub FitsNumber : Command → Type 0
FitsNumber (command.WriteMax n) = n < 2 ^ 64
FitsNumber (command.AddMember n) = n < 2 ^ 32
FitsNumber _ = ⊤

pub record SaysCommand (words : List (List ℕ)) (c : Command) : Type 0 where
  pub spelled : words ≡ command_words c
  pub spoken : IsSpoken c

abbrev pub NoCommand : List (List ℕ) → Type 0
NoCommand words = (c : Command) → FitsNumber c → SaysCommand words c → ⊥
