-- Commands are read as they are spelled.
use Rattle.std.proofs.Common.{◌≡◌, ℕ, cond, eqb, List, [], ◌∷◌, ◌++◌, Ok, refl}
use Rattle.cc_messages.specs.declared.command.Command.{Command}
use Rattle.cc_messages.specs.declared.command.Command.TheVariants.{Store, Collect, WriteMax, ReadMax, SetFlag, ReadFlag, AddMember, ReadSet}
use Rattle.cc_wire.specs.Readers.{Reading, via}
use Rattle.cc_wire.specs.Commands.{command_spelling, IsCommand, command_fields, command_at}
use Rattle.cc_wire.proofs.Spelled.{IsBytes, Takes, Spelled, nothing_spelled, kind_or, kinded_takes}
use Rattle.cc_wire.proofs.Formats.{text_spelled, u32_spelled, u64_spelled}

module _ (bytes after : List ℕ) (k : ℕ) (m : Command) (rest : List ℕ) (fits : IsBytes after) (front : Takes bytes (k ∷ []) after) where
  abbrev case : {A : Type 0} {r : Reading A} {P : A → Type 0} {f : A → List ℕ} (spelled : Spelled r P f) (make : A → Command) (kind : ℕ)
      → ((a : A) → P a → IsCommand (make a)) → ((a : A) → command_spelling (make a) ≡ kind ∷ f a)
      → (other : Reading Command) → (other after ≡ Ok (m, rest) → Takes bytes (command_spelling m) rest × IsCommand m)
      → (cond (eqb k kind) (via make r) other) after ≡ Ok (m, rest) → Takes bytes (command_spelling m) rest × IsCommand m
  case = kind_or command_spelling IsCommand bytes after k m rest fits front

  fields_take : command_fields k after ≡ Ok (m, rest) → Takes bytes (command_spelling m) rest × IsCommand m
  fields_take =
      case text_spelled (λ text. Store text) 1 (λ a h. h) (λ a. refl) _ (
      case nothing_spelled (λ _. Collect) 2 (λ a h. h) (λ a. refl) _ (
      case u64_spelled (λ number. WriteMax number) 3 (λ a h. h) (λ a. refl) _ (
      case nothing_spelled (λ _. ReadMax) 4 (λ a h. h) (λ a. refl) _ (
      case nothing_spelled (λ _. SetFlag) 5 (λ a h. h) (λ a. refl) _ (
      case nothing_spelled (λ _. ReadFlag) 6 (λ a h. h) (λ a. refl) _ (
      case u32_spelled (λ number. AddMember number) 7 (λ a h. h) (λ a. refl) _ (
      case nothing_spelled (λ _. ReadSet) 8 (λ a h. h) (λ a. refl) _ (
      λ e. absurd cc))))))))

command_again : (m : Command) (rest : List ℕ) → IsCommand m → command_at (command_spelling m ++ rest) ≡ Ok (m, rest)
unfolding command_at
command_again (Store text) rest is = rw (text_spelled.again text rest is) refl
command_again Collect rest is = refl
command_again (WriteMax number) rest is = rw (u64_spelled.again number rest is) refl
command_again ReadMax rest is = refl
command_again SetFlag rest is = refl
command_again ReadFlag rest is = refl
command_again (AddMember number) rest is = rw (u32_spelled.again number rest is) refl
command_again ReadSet rest is = refl

pub command_spelled : Spelled command_at IsCommand command_spelling
unfolding command_at
command_spelled = record { takes = kinded_takes fields_take; again = command_again }
