-- What a run of withheld numbers covers as it grows.
--     one_number, one_more     a run of one number, and one with one more
--     skipped_length           how many numbers a run has
--     grown, held, waits       a run that went on covers its number as well; whatever becomes of it, all is covered in order;
--                              and it waits while there are less than 64
use Rattle.std.proofs.Common.{◌≡◌, ℕ, zero, suc, ◌+◌, ◌-◌, ◌≤◌, ◌<◌, Bool, true, false, List, [], ◌∷◌, ◌++◌, map, length, refl, ap, ◌∙◌, arith}
use Rattle.std.specs.Prelude.{Option, None, Some, ◌==◌, if◌then◌else◌}
use Rattle.std.proofs.lemmas.List.{append-nil, length-append}
use Rattle.std.proofs.lemmas.Bool.{eqb-true}
use Rattle.cc_messages.specs.Ranges.{Range}
use Rattle.cc_node.specs.Skips.{numbers_from}
use Rattle.cc_policies.specs.declared.withheld.Due.{Due}
use Rattle.cc_policies.specs.Withheld.{Put, skipped, in_run, covered, joined, Holds}

from_more : (first n : ℕ) → numbers_from first (n + 1) ≡ numbers_from first n ++ (first + n) ∷ []
from_more first zero = ap (λ (k : ℕ). k ∷ []) (omega arith)
from_more first (suc n) =
    let more : suc n + 1 ≡ suc (n + 1) = omega arith in
    let place : first + 1 + n ≡ first + suc n = omega arith in
    ap (numbers_from first) more
    ∙ ap (λ (l : List ℕ). first ∷ l) (from_more (first + 1) n)
    ∙ ap (λ (k : ℕ). first ∷ (numbers_from (first + 1) n ++ k ∷ [])) place

-- numbers whose posts are for others
abbrev others : List ℕ → List Put
others = map (λ n. (n, false))

others_both : (xs ys : List ℕ) → others (xs ++ ys) ≡ others xs ++ others ys
others_both [] ys = refl
others_both (x ∷ xs) ys = ap (λ (l : List Put). (x, false) ∷ l) (others_both xs ys)

pub one_number : (n : ℕ) → skipped (record { first = n; last = n }) ≡ (n, false) ∷ []
one_number n =
    let count : n + 1 - n ≡ 1 = omega arith in
    ap (λ (k : ℕ). others (numbers_from n k)) count

pub one_more : (r : Range) → r.first ≤ r.last + 1 → skipped (record r { last = r.last + 1 }) ≡ skipped r ++ (r.last + 1, false) ∷ []
one_more r ascends =
    let n = r.last + 1 - r.first in
    let count : r.last + 1 + 1 - r.first ≡ n + 1 = omega (arith, ascends) in
    let last : r.first + n ≡ r.last + 1 = omega (arith, ascends) in
    ap (λ (k : ℕ). others (numbers_from r.first k)) count
    ∙ ap others (from_more r.first n)
    ∙ others_both (numbers_from r.first n) ((r.first + n) ∷ [])
    ∙ ap (λ (k : ℕ). skipped r ++ (k, false) ∷ []) last

from_length : (first n : ℕ) → length (numbers_from first n) ≡ n
from_length first zero = refl
from_length first (suc n) = ap suc (from_length (first + 1) n)

others_length : (xs : List ℕ) → length (others xs) ≡ length xs
others_length [] = refl
others_length (x ∷ xs) = ap suc (others_length xs)

pub skipped_length : (r : Range) → length (skipped r) ≡ r.last + 1 - r.first
skipped_length r = others_length (numbers_from r.first (r.last + 1 - r.first)) ∙ from_length r.first (r.last + 1 - r.first)

-- a run that went on covers the number as well
pub grown : (old : Option Range) (n : ℕ) (run : Range) → joined old n ≡ Some run → run.first ≤ run.last
    → skipped run ≡ in_run old ++ (n, false) ∷ []
grown None n run is ascends = absurd cc
grown (Some r) n run is ascends = by_cases (n == (r.last + 1)) refl is
  where
    by_cases : (b : Bool) → n == (r.last + 1) ≡ b → (if b then Some (record r { last = n }) else None) ≡ Some run
        → skipped run ≡ skipped r ++ (n, false) ∷ []
    by_cases true equal is =
        let same : n ≡ r.last + 1 = eqb-true n (r.last + 1) equal in
        let run_is : record r { last = n } ≡ run = cc in
        let first_is : r.first ≡ run.first = ap (λ (x : Range). x.first) run_is in
        let last_is : n ≡ run.last = ap (λ (x : Range). x.last) run_is in
        rw (← run_is, same) (one_more r (omega (arith, first_is, last_is, same, ascends)))
    by_cases false differ is = absurd cc

-- and so does what is written of it, with what is left
pub held : (old : Option Range) (n : ℕ) (run : Range) (due : Due) (left : Option Range)
    → joined old n ≡ Some run → run.first ≤ run.last → Holds run due left
    → covered due n ++ in_run left ≡ in_run old ++ (n, false) ∷ []
held old n run due left is ascends holds =
    ap (λ (b : Bool). (in_run due.skip ++ (if b then (n, true) ∷ [] else [])) ++ in_run left) holds.no_post
    ∙ ap (λ (l : List Put). l ++ in_run left) (append-nil (in_run due.skip))
    ∙ holds.covers
    ∙ grown old n run is ascends

-- and is still withheld where there are less than 64
pub waits : (old : Option Range) (n : ℕ) (run : Range) (due : Due) (left : Option Range)
    → joined old n ≡ Some run → run.first ≤ run.last → Holds run due left → length (in_run old) < 63
    → due ≡ record { skip = None; has_post = false }
waits old n run due left is ascends holds few =
    let more : length (skipped run) ≡ length (in_run old) + 1 =
    ap length (grown old n run is ascends) ∙ length-append (in_run old) ((n, false) ∷ []) in
    let none : due.skip ≡ None = holds.waits (omega (arith, more, few)) in
    both due none holds.no_post
  where
    both : (due : Due) → due.skip ≡ None → due.has_post ≡ false → due ≡ record { skip = None; has_post = false }
    both due none without = ap (λ (s : Option Range). record { skip = s; has_post = due.has_post }) none ∙ ap (λ (b : Bool). record { skip = None; has_post = b }) without
