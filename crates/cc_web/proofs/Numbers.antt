-- What is read as a number is the one that `number_in` says.
--     is_number      what `cc_command_line` reads
--     no_text        bytes that are no UTF-8 are no number
use Rattle.std.proofs.Common.{◌≡◌, ℕ, ◌<◌, ◌≤◌, ◌^◌, ◌&&◌, List, length, get_or, Bool, true, false, cond, Option, Some, None, refl, sym, ap, ◌∙◌, subst, arith}
use Rattle.std.specs.Prelude.{MatchOption, IfSome, bytes_eq, nat_lt}
use Rattle.std.specs.Fmt.{decimal}
use Rattle.std.specs.Int.{IsInRange}
use Rattle.std.specs.Str.{IsUtf8}
use Rattle.std.specs.Str.Parse.{digits_value}
use Rattle.std.proofs.lemmas.Bool.{and_parts, ltb-true, lt-ltb}
use Rattle.std.proofs.lemmas.Fmt.{digits_value-decimal, IsAscii-decimal}
use Rattle.std.proofs.lemmas.Slice.Eq.{bytes_eq-Decides}
use Rattle.std.proofs.lemmas.Str.{IsUtf8-from_ascii}
use Rattle.std.proofs.lemmas.Str.Parse.{IsNumeralModel, numerals_by_value, tells_by_index}
use Rattle.cc_command_line.specs.Words.{NoNumber}
use Rattle.cc_web.specs.Words.{number_in}

abbrev AreDigits : List ℕ → Type 0
AreDigits ds = (i : ℕ) → i < length ds → IsInRange 48 57 (get_or ds i 0)

own : IsNumeralModel AreDigits (digits_value 10)
own = numerals_by_value AreDigits tells_by_index

chosen : (word : List ℕ) (n m bits : ℕ) → m ≡ n → bytes_eq word (decimal n) ≡ true → nat_lt n (2 ^ bits) ≡ true
    → cond (bytes_eq word (decimal m) && nat_lt m (2 ^ bits)) (Some m) None ≡ Some n
chosen word n m bits same is small = rw (same, is, small) refl

none_of : (t : Bool) (m : ℕ) → (t ≡ true → ⊥) → None ≡ cond t (Some m) None
none_of true m never = absurd (never refl)
none_of false m never = refl

found : (bits : ℕ) (word : List ℕ) (n : ℕ) → 2 ^ bits ≤ 2 ^ 64 → n < 2 ^ bits → word ≡ decimal n → Some n ≡ number_in bits word
unfolding number_in
found bits word n most small is =
    sym (chosen word n (digits_value 10 word) bits (ap (digits_value 10) is ∙ digits_value-decimal own n (omega (arith, small, most)))
    ((bytes_eq-Decides word (decimal n)).1 is) (lt-ltb n (2 ^ bits) small))

absent : (bits : ℕ) (word : List ℕ) → NoNumber bits word → None ≡ number_in bits word
unfolding number_in
absent bits word never =
    let m = digits_value 10 word in
    none_of (bytes_eq word (decimal m) && nat_lt m (2 ^ bits)) m (λ both.
    let parts = and_parts (bytes_eq word (decimal m)) (nat_lt m (2 ^ bits)) both in
    never m (ltb-true m (2 ^ bits) parts.1) ((bytes_eq-Decides word (decimal m)).0 parts.0))

pub is_number : (bits : ℕ) (word : List ℕ) (r : Option ℕ) → 2 ^ bits ≤ 2 ^ 64 → IfSome r (λ n. n < 2 ^ bits)
    → MatchOption r (NoNumber bits word) (λ n. word ≡ decimal n) → r ≡ number_in bits word
is_number bits word None most small never = absent bits word never
is_number bits word (Some n) most small is = found bits word n most small is

pub no_text : (bits : ℕ) (word : List ℕ) → 2 ^ bits ≤ 2 ^ 64 → ¬ (IsUtf8 word) → None ≡ number_in bits word
no_text bits word most never = absent bits word (λ n small is.
    never (subst IsUtf8 (sym is) (IsUtf8-from_ascii (decimal n) (IsAscii-decimal n (omega (arith, small, most))))))
