-- Answers as bytes: a kind, and then the field.
use Rattle.std.specs.Prelude.{ℕ, ◌<◌, ◌^◌, List, [], ◌∷◌, Err, ◌==◌, if◌then◌else◌}
use Rattle.std.specs.Int.{w64, to_be_bytes}
use Rattle.cc_wire.specs.declared.fault.WireFault.TheVariants.{BadKind}
use Rattle.cc_messages.specs.declared.answer.Answer.{Answer}
use Rattle.cc_messages.specs.declared.answer.Answer.TheVariants.{Stored, Seen, Max, Flag, Set}
use Rattle.cc_wire.specs.Readers.{Reading, via, nothing_at, kinded, number_at, flag_at, number_list_at, view_at}
use Rattle.cc_wire.specs.Spellings.{Spells, flag_spelling, number_list_spelling, IsNumberList, view_spelling, IsView}

abbrev pub answer_spelling : Answer → List ℕ
answer_spelling Stored = 1 ∷ []
answer_spelling (Seen view) = 2 ∷ view_spelling view
answer_spelling (Max number) = 3 ∷ to_be_bytes w64 number
answer_spelling (Flag flag) = 4 ∷ flag_spelling flag
answer_spelling (Set numbers) = 5 ∷ number_list_spelling numbers

abbrev pub IsAnswer : Answer → Type 0
IsAnswer Stored = Unit {0}
IsAnswer (Seen view) = IsView view
IsAnswer (Max number) = number < 2 ^ 64
IsAnswer (Flag flag) = Unit {0}
IsAnswer (Set numbers) = IsNumberList numbers

abbrev pub SpellsAnswer : List ℕ → Answer → Type 0
SpellsAnswer = Spells IsAnswer answer_spelling

abbrev pub answer_fields : ℕ → Reading Answer
answer_fields kind =
    if kind == 1 then via (λ _. Stored) nothing_at
    else (if kind == 2 then via (λ view. Seen view) view_at
    else (if kind == 3 then via (λ number. Max number) (number_at w64)
    else (if kind == 4 then via (λ flag. Flag flag) flag_at
    else (if kind == 5 then via (λ numbers. Set numbers) number_list_at
    else (λ bytes. Err (BadKind kind))))))

unfoldable pub answer_at : Reading Answer
answer_at = kinded answer_fields
