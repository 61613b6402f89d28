-- Answers are read as they are spelled.
use Rattle.std.proofs.Common.{◌≡◌, ℕ, cond, eqb, List, [], ◌∷◌, ◌++◌, Ok, refl}
use Rattle.cc_messages.specs.declared.answer.Answer.{Answer}
use Rattle.cc_messages.specs.declared.answer.Answer.TheVariants.{Stored, Seen, Max, Flag, Set}
use Rattle.cc_wire.specs.Readers.{Reading, via}
use Rattle.cc_wire.specs.Answers.{answer_spelling, IsAnswer, answer_fields, answer_at}
use Rattle.cc_wire.proofs.Spelled.{IsBytes, Takes, Spelled, nothing_spelled, kind_or, kinded_takes}
use Rattle.cc_wire.proofs.Formats.{u64_spelled, flag_spelled, number_list_spelled, view_spelled}

module _ (bytes after : List ℕ) (k : ℕ) (m : Answer) (rest : List ℕ) (fits : IsBytes after) (front : Takes bytes (k ∷ []) after) where
  abbrev case : {A : Type 0} {r : Reading A} {P : A → Type 0} {f : A → List ℕ} (spelled : Spelled r P f) (make : A → Answer) (kind : ℕ)
      → ((a : A) → P a → IsAnswer (make a)) → ((a : A) → answer_spelling (make a) ≡ kind ∷ f a)
      → (other : Reading Answer) → (other after ≡ Ok (m, rest) → Takes bytes (answer_spelling m) rest × IsAnswer m)
      → (cond (eqb k kind) (via make r) other) after ≡ Ok (m, rest) → Takes bytes (answer_spelling m) rest × IsAnswer m
  case = kind_or answer_spelling IsAnswer bytes after k m rest fits front

  fields_take : answer_fields k after ≡ Ok (m, rest) → Takes bytes (answer_spelling m) rest × IsAnswer m
  fields_take =
      case nothing_spelled (λ _. Stored) 1 (λ a h. h) (λ a. refl) _ (
      case view_spelled (λ view. Seen view) 2 (λ a h. h) (λ a. refl) _ (
      case u64_spelled (λ number. Max number) 3 (λ a h. h) (λ a. refl) _ (
      case flag_spelled (λ flag. Flag flag) 4 (λ a h. h) (λ a. refl) _ (
      case number_list_spelled (λ numbers. Set numbers) 5 (λ a h. h) (λ a. refl) _ (
      λ e. absurd cc)))))

answer_again : (m : Answer) (rest : List ℕ) → IsAnswer m → answer_at (answer_spelling m ++ rest) ≡ Ok (m, rest)
unfolding answer_at
answer_again Stored rest is = refl
answer_again (Seen view) rest is = rw (view_spelled.again view rest is) refl
answer_again (Max number) rest is = rw (u64_spelled.again number rest is) refl
answer_again (Flag flag) rest is = rw (flag_spelled.again flag rest is) refl
answer_again (Set numbers) rest is = rw (number_list_spelled.again numbers rest is) refl

pub answer_spelled : Spelled answer_at IsAnswer answer_spelling
unfolding answer_at
answer_spelled = record { takes = kinded_takes fields_take; again = answer_again }
