-- What words spell.
--     IsPlain                    digits alone, and no zero before other digits
--     NoNumber                   not the digits of a number of so many bits
--     list_word, fraction_word   numbers with a comma between each two;  two of them with a slash between them
--     SpellsList, NoList         one number or more;  not a word of such numbers below 2^32
--     NoNumbers                  of these words, one or more is no such number
--     NoFraction                 not a word of two such numbers
use Rattle.std.specs.Prelude.{◌≡◌, ◌≢◌, ◌≤◌, ◌<◌, ◌^◌, ℕ, List, ◌∷◌, ◌++◌, length, map, slice_index, EachIndex}
use Rattle.std.specs.Fmt.{decimal}
use Rattle.std.specs.Int.{IsInRange}
use Rattle.std.specs.List.{AllByRecursion, join_with_byte}
use Rattle.cc_changes.specs.declared.fraction.Fraction.{Fraction}

abbrev pub IsPlain : List ℕ → Type 0
IsPlain bytes = (2 ≤ length bytes → slice_index bytes 0 ≢ 48) × EachIndex bytes (λ k. IsInRange 48 57 (slice_index bytes k))

abbrev pub NoNumber : ℕ → List ℕ → Type 0
NoNumber bits word = (n : ℕ) → n < 2 ^ bits → word ≢ decimal n

abbrev pub list_word : List ℕ → List ℕ
list_word numbers = join_with_byte 44 (map decimal numbers)

abbrev pub fraction_word : Fraction → List ℕ
fraction_word f = decimal f.num ++ 47 ∷ decimal f.den

abbrev pub AreSmall : List ℕ → Type 0
AreSmall numbers = AllByRecursion (λ n. n < 2 ^ 32) numbers

pub record SpellsList (word numbers : List ℕ) : Type 0 where
  pub some : 1 ≤ length numbers
  pub spelled : word ≡ list_word numbers

abbrev pub NoList : List ℕ → Type 0
NoList word = (numbers : List ℕ) → AreSmall numbers → SpellsList word numbers → ⊥

abbrev pub NoNumbers : List (List ℕ) → Type 0
NoNumbers words = (numbers : List ℕ) → AreSmall numbers → words ≢ map decimal numbers

abbrev pub NoFraction : List ℕ → Type 0
NoFraction word = (f : Fraction) → f.num < 2 ^ 32 → f.den < 2 ^ 32 → word ≢ fraction_word f
