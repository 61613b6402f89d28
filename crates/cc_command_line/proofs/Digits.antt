-- Plain digits, and what `parse` reads of them.
--     fits                  a number of 32 bits has 64
--     decimal_plain         the digits of a number are plain
--     not_plain             what isn't plain is no number
--     plain_parsed          `parse` reads the number that plain digits are, or there is none
use Rattle.std.proofs.Common.{◌≡◌, ◌≢◌, ◌⊎◌, inl, inr, ℕ, ◌<◌, ◌≤◌, ◌^◌, List, length, get_or, Result, Ok, Err, sym, ap, subst, ◌∙◌, arith, lit<, lit≤}
use Rattle.std.specs.Prelude.{MatchOption}
use Rattle.std.specs.Fmt.{decimal}
use Rattle.std.specs.Int.{IsInRange}
use Rattle.std.specs.Result.{OkIff, result_ok}
use Rattle.std.specs.Str.Parse.{digits_value, ParsesUnsigned}
use Rattle.std.proofs.lemmas.Bool.{cases_lt}
use Rattle.std.proofs.lemmas.Fmt.{decimal_digit, decimal_nonempty, first_decimal, digits_decimal, digits_value-decimal, decimal-digits_value}
use Rattle.std.proofs.lemmas.Str.Parse.{IsNumeralModel, numerals_by_value, tells_by_index, parse_digits}
use Rattle.cc_command_line.specs.Words.{IsPlain, NoNumber}

abbrev AreDigits : List ℕ → Type 0
AreDigits ds = (i : ℕ) → i < length ds → IsInRange 48 57 (get_or ds i 0)

own : IsNumeralModel AreDigits (digits_value 10)
own = numerals_by_value AreDigits tells_by_index

pub fits : (n : ℕ) → n < 2 ^ 32 → n < 2 ^ 64
fits n small = let most : 2 ^ 32 ≤ 2 ^ 64 = lit≤ tt in omega (arith, small, most)

-- no zero stands before other digits
no_zero_first : (n : ℕ) → n < 2 ^ 64 → (0 < n) ⊎ (n ≡ 0) → 2 ≤ length (decimal n) → get_or (decimal n) 0 0 ≢ 48
no_zero_first n small (inl some) long zero = omega (arith, zero, first_decimal n some small)
no_zero_first n small (inr none) long zero = omega (arith, long, ap length (ap decimal none ∙ decimal_digit 0 (lit< tt)))

some_or_none : (n : ℕ) → (0 < n) ⊎ (n ≡ 0)
some_or_none n = elim (cases_lt 0 n) [ inl some ↦ inl some | inr none ↦ inr (omega arith) ]

pub decimal_plain : (n : ℕ) → n < 2 ^ 64 → IsPlain (decimal n)
decimal_plain n small = (no_zero_first n small (some_or_none n), digits_decimal own n small)

pub not_plain : (bits : ℕ) (word : List ℕ) → 2 ^ bits ≤ 2 ^ 64 → ¬ (IsPlain word) → NoNumber bits word
not_plain bits word most never n small is = never (subst IsPlain (sym is) (decimal_plain n (omega (arith, small, most))))

-- a word that begins with a zero is that zero
one_zero : (word : List ℕ) → IsPlain word → 0 < length word → (2 ≤ length word) ⊎ (length word ≤ 1) → get_or word 0 0 ≡ 48 → length word ≡ 1
one_zero word plain some (inl long) zero = absurd (plain.0 long zero)
one_zero word plain some (inr short) zero = omega (arith, some, short)

long_or_short : (n : ℕ) → (2 ≤ n) ⊎ (n ≤ 1)
long_or_short n = elim (cases_lt 1 n) [ inl long ↦ inl (omega (arith, long)) | inr short ↦ inr short ]

-- as `parse` answers
parsed : {E : Type 0} (bits : ℕ) (word : List ℕ) (r : Result ℕ E) → 2 ^ bits ≤ 2 ^ 64 → IsPlain word
    → OkIff r ((0 < length word) × (digits_value 10 word < 2 ^ bits)) (digits_value 10 word)
    → MatchOption (result_ok r) (NoNumber bits word) (λ n. word ≡ decimal n)
parsed bits word (Ok n) most plain is =
    sym (decimal-digits_value own word plain.1 is.0.0 (one_zero word plain is.0.0 (long_or_short (length word))) (omega (arith, is.0.1, most)))
    ∙ ap decimal (sym is.1)
parsed bits word (Err e) most plain never = λ n small is.
    let fits : n < 2 ^ 64 = omega (arith, small, most) in
    never (
      subst (λ (w : List ℕ). 0 < length w) (sym is) (decimal_nonempty n fits),
      subst (λ (w : List ℕ). digits_value 10 w < 2 ^ bits) (sym is) (subst (λ (m : ℕ). m < 2 ^ bits) (sym (digits_value-decimal own n fits)) small),
    )

pub plain_parsed : {E : Type 0} (bits : ℕ) (word : List ℕ) (r : Result ℕ E) → 2 ^ bits ≤ 2 ^ 64 → IsPlain word → ParsesUnsigned bits 10 word r
    → MatchOption (result_ok r) (NoNumber bits word) (λ n. word ≡ decimal n)
plain_parsed bits word r most plain is = parsed bits word r most plain (parse_digits own bits word r is plain.1)
