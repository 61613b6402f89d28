-- Commands as bytes: a kind, and then the field.
use Rattle.std.specs.Prelude.{ℕ, ◌<◌, ◌^◌, List, [], ◌∷◌, Err, ◌==◌, if◌then◌else◌}
use Rattle.std.specs.Int.{w32, w64, to_be_bytes}
use Rattle.cc_wire.specs.declared.fault.WireFault.TheVariants.{BadKind}
use Rattle.cc_messages.specs.declared.command.Command.{Command}
use Rattle.cc_messages.specs.declared.command.Command.TheVariants.{Store, Collect, WriteMax, ReadMax, SetFlag, ReadFlag, AddMember, ReadSet}
use Rattle.cc_wire.specs.Readers.{Reading, via, nothing_at, kinded, number_at, text_at}
use Rattle.cc_wire.specs.Spellings.{Spells, text_spelling, IsText}

abbrev pub command_spelling : Command → List ℕ
command_spelling (Store text) = 1 ∷ text_spelling text
command_spelling Collect = 2 ∷ []
command_spelling (WriteMax number) = 3 ∷ to_be_bytes w64 number
command_spelling ReadMax = 4 ∷ []
command_spelling SetFlag = 5 ∷ []
command_spelling ReadFlag = 6 ∷ []
command_spelling (AddMember number) = 7 ∷ to_be_bytes w32 number
command_spelling ReadSet = 8 ∷ []

abbrev pub IsCommand : Command → Type 0
IsCommand (Store text) = IsText text
IsCommand Collect = Unit {0}
IsCommand (WriteMax number) = number < 2 ^ 64
IsCommand ReadMax = Unit {0}
IsCommand SetFlag = Unit {0}
IsCommand ReadFlag = Unit {0}
IsCommand (AddMember number) = number < 2 ^ 32
IsCommand ReadSet = Unit {0}

abbrev pub SpellsCommand : List ℕ → Command → Type 0
SpellsCommand = Spells IsCommand command_spelling

abbrev pub command_fields : ℕ → Reading Command
command_fields kind =
    if kind == 1 then via (λ text. Store text) text_at
    else (if kind == 2 then via (λ _. Collect) nothing_at
    else (if kind == 3 then via (λ number. WriteMax number) (number_at w64)
    else (if kind == 4 then via (λ _. ReadMax) nothing_at
    else (if kind == 5 then via (λ _. SetFlag) nothing_at
    else (if kind == 6 then via (λ _. ReadFlag) nothing_at
    else (if kind == 7 then via (λ number. AddMember number) (number_at w32)
    else (if kind == 8 then via (λ _. ReadSet) nothing_at
    else (λ bytes. Err (BadKind kind)))))))))

unfoldable pub command_at : Reading Command
command_at = kinded command_fields
