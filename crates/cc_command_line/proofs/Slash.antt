-- Two numbers with a slash between them.
--     no_slash         a word without a slash is no fraction
--     not_before, not_behind     one whose part before its first slash is no number;  whose part behind it is none
use Rattle.std.proofs.Common.{◌≡◌, ◌≢◌, ℕ, ◌<◌, ◌^◌, List, length, get_or, Option, Some, None, Bor, arith, lit<}
use Rattle.std.specs.Fmt.{decimal}
use Rattle.std.specs.Int.{IsInRange}
use Rattle.std.proofs.lemmas.Bool.{eqb-false}
use Rattle.std.proofs.lemmas.Str.Pattern.{IsSplitOnceResult, split_after}
use Rattle.cc_changes.specs.declared.fraction.Fraction.{Fraction}
use Rattle.cc_command_line.specs.Words.{fraction_word, NoFraction, NoNumber}
use Rattle.cc_command_line.proofs.Digits.{fits}
use Rattle.cc_command_line.proofs.Parts.{avoids}

slash_is_no_digit : ¬ (IsInRange 48 57 47)
slash_is_no_digit is = omega (arith, is.0)

no_slash_in : (n : ℕ) → n < 2 ^ 32 → (i : ℕ) → i < length (decimal n) → get_or (decimal n) i 0 ≢ 47
no_slash_in n small i within is = eqb-false (get_or (decimal n) i 0) 47 (avoids 47 n (fits n small) slash_is_no_digit i 0 within) is

-- the parts of a fraction's word are its numbers
parts : (word : List ℕ) (f : Fraction) (r : Option (Bor (List ℕ) × Bor (List ℕ))) (a b : Bor (List ℕ)) → IsSplitOnceResult 47 word r → r ≡ Some (a, b)
    → f.num < 2 ^ 32 → word ≡ fraction_word f → (a.now ≡ decimal f.num) × (b.now ≡ decimal f.den)
parts word f r a b cut some small is = rw some at (split_after 47 word (decimal f.num) (decimal f.den) r cut (lit< tt) is (no_slash_in f.num small))

pub not_before : (word : List ℕ) (r : Option (Bor (List ℕ) × Bor (List ℕ))) (a b : Bor (List ℕ)) → IsSplitOnceResult 47 word r → r ≡ Some (a, b)
    → NoNumber 32 a.now → NoFraction word
not_before word r a b cut some never f small small_too is = never f.num small (parts word f r a b cut some small is).0

pub not_behind : (word : List ℕ) (r : Option (Bor (List ℕ) × Bor (List ℕ))) (a b : Bor (List ℕ)) → IsSplitOnceResult 47 word r → r ≡ Some (a, b)
    → NoNumber 32 b.now → NoFraction word
not_behind word r a b cut some never f small small_too is = never f.den small_too (parts word f r a b cut some small is).1

pub no_slash : (word : List ℕ) (r : Option (Bor (List ℕ) × Bor (List ℕ))) → IsSplitOnceResult 47 word r → r ≡ None → NoFraction word
no_slash word r cut none f small small_too is = rw none at (split_after 47 word (decimal f.num) (decimal f.den) r cut (lit< tt) is (no_slash_in f.num small))
