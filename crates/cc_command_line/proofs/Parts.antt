-- Numbers joined by commas, and the parts between the commas.
--     avoids                 the digits of a number hold no other character
--     list_parts             between the commas of a list word stand its numbers
--     spells_list, no_list   a word with such parts is a list;  one with others isn't
--     list_of_parts          either
--     no_numbers             one of the words is no number
--     all_numbers            each of them is
use Rattle.std.proofs.Common.{◌≡◌, inl, inr, ℕ, ◌<◌, ◌≤◌, ◌^◌, List, [], ◌∷◌, length, map, drop, get_or, false, Result, Ok, Err, Option, Some, None}
use Rattle.std.proofs.Common.{sym, ap, subst, ◌∙◌, refl, arith, zero, suc}
use Rattle.std.specs.Prelude.{IfOk, MatchOption}
use Rattle.std.specs.Fmt.{decimal}
use Rattle.std.specs.Int.{IsInRange}
use Rattle.std.specs.List.{All, join_with_byte, slice_split}
use Rattle.std.proofs.Math.Dec.{eqb}
use Rattle.std.proofs.lemmas.Bool.Decides.{eqb_tells}
use Rattle.std.proofs.lemmas.List.{get_or_default, length-map}
use Rattle.std.proofs.lemmas.List.Splits.{slice_split_at, slice_split_none, length-slice_split, join_with_byte-slice_split}
use Rattle.cc_command_line.specs.Words.{AreSmall, SpellsList, NoNumber, NoList, NoNumbers, list_word}
use Rattle.cc_command_line.proofs.Digits.{decimal_plain, fits}

pub avoids : (c n : ℕ) → n < 2 ^ 64 → ¬ (IsInRange 48 57 c) → All (λ b. eqb b c ≡ false) (decimal n)
avoids c n small out k d within = elim (eqb_tells (get_or (decimal n) k d) c) [
  | inl same ↦ absurd (out (subst (IsInRange 48 57) (sym (get_or_default (decimal n) k d 0 within) ∙ same.1) ((decimal_plain n small).1 k within)))
  | inr other ↦ other.0
]

comma_is_no_digit : ¬ (IsInRange 48 57 44)
comma_is_no_digit is = omega (arith, is.0)

pub list_parts : (numbers : List ℕ) → AreSmall numbers → 1 ≤ length numbers → slice_split (λ b. eqb b 44) (list_word numbers) ≡ map decimal numbers
list_parts [] small some = absurd (omega (arith, some))
list_parts (n ∷ []) small some = slice_split_none (λ b. eqb b 44) (decimal n) (avoids 44 n (fits n small.0) comma_is_no_digit)
list_parts (n ∷ m ∷ numbers) small some =
    slice_split_at (λ b. eqb b 44) (decimal n) 44 (list_word (m ∷ numbers)) (avoids 44 n (fits n small.0) comma_is_no_digit) refl
    ∙ ap (λ (parts : List (List ℕ)). decimal n ∷ parts) (list_parts (m ∷ numbers) small.1 (omega arith))

pub spells_list : (word : List ℕ) (parts : List (List ℕ)) (numbers : List ℕ) → parts ≡ slice_split (λ b. eqb b 44) word → parts ≡ map decimal numbers
    → SpellsList word numbers
spells_list word parts numbers split are = record {
  some = omega (arith, ap length (sym split ∙ are), length-slice_split (λ b. eqb b 44) word, length-map numbers decimal);
  spelled = sym (join_with_byte-slice_split 44 word) ∙ ap (join_with_byte 44) (sym split ∙ are);
}

pub no_list : (word : List ℕ) (parts : List (List ℕ)) → parts ≡ slice_split (λ b. eqb b 44) word → NoNumbers parts → NoList word
no_list word parts split never numbers small is = never numbers small (split ∙ ap (slice_split (λ b. eqb b 44)) is.spelled ∙ list_parts numbers small is.some)

-- as the parts are numbers, or aren't
pub list_of_parts : {V E : Type 0} (items : V → List ℕ) (word : List ℕ) (parts : List (List ℕ)) (r : Result (Option V) E)
    → parts ≡ slice_split (λ b. eqb b 44) word → IfOk r (λ o. MatchOption o (NoNumbers parts) (λ v. parts ≡ map decimal (items v)))
    → IfOk r (λ o. MatchOption o (NoList word) (λ v. SpellsList word (items v)))
list_of_parts items word parts (Ok (Some v)) split are = spells_list word parts (items v) split are
list_of_parts items word parts (Ok None) split never = no_list word parts split never
list_of_parts items word parts (Err e) split none = tt

pub no_numbers : (words : List (List ℕ)) (i : ℕ) → i < length words → NoNumber 32 (get_or words i []) → NoNumbers words
no_numbers [] i within never numbers small is = omega (arith, within)
no_numbers (word ∷ words) i within never [] small is = cc
no_numbers (word ∷ words) zero within never (n ∷ numbers) small is = never n small.0 (ap (λ (l : List (List ℕ)). get_or l 0 []) is)
no_numbers (word ∷ words) (suc i) within never (n ∷ numbers) small is = no_numbers words i (omega (arith, within)) never numbers small.1
    (ap (λ (l : List (List ℕ)). drop 1 l) is)
