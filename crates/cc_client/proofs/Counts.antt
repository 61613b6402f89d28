-- How many numbers of a list are at most so much.
--     within_more              no fewer where that is more
--     all_within, few_within   with a further number:  all are at most the greatest;  not all are at most less than that
--     at_the_end               what holds of all of them once the list is at its end
--     short_below, enough      where too few are, too few are at most less;  enough are at most the greatest
use Rattle.std.proofs.Common.{◌≡◌, ℕ, ◌+◌, ◌<◌, ◌≤◌, max, cond, leb, List, length, take, get_or, subst, arith, length-take, take_all, inl, inr}
use Rattle.std.proofs.lemmas.Bool.{le-leb}
use Rattle.std.proofs.lemmas.Bool.Decides.{leb_tells}
use Rattle.std.proofs.lemmas.List.Sums.{sum_by-le-sum_by, count_by-le-length, count_by_more_yes, count_by_more_no}
use Rattle.std.proofs.lemmas.Nat.{mul-le}
use Rattle.cc_client.specs.Latencies.{count_within, IsWithin, IsShort, IsQuantile}

one_within : (x v w : ℕ) → v ≤ w → cond (leb x v) 1 0 ≤ cond (leb x w) 1 0
one_within x v w le =
    elim (leb_tells x v) [
      | inl held ↦ rw (held.0, le-leb x w (omega (arith, held.1, le))) (omega arith)
      | inr missed ↦ rw missed.0 (omega arith)
    ]

pub within_more : (v w : ℕ) (xs : List ℕ) → v ≤ w → count_within v xs ≤ count_within w xs
within_more v w xs le = sum_by-le-sum_by (λ x. cond (leb x v) 1 0) (λ x. cond (leb x w) 1 0) xs (λ x. one_within x v w le)

within_first : (v i : ℕ) (xs : List ℕ) → count_within v (take i xs) ≤ i
within_first v i xs = omega (arith, count_by-le-length (λ x. leb x v) (take i xs), length-take i xs)

pub all_within : (xs : List ℕ) (i g : ℕ) → i < length xs → count_within g (take i xs) ≡ i → count_within (max g (get_or xs i 0)) (take (i + 1) xs) ≡ i + 1
all_within xs i g lt all =
    let x = get_or xs i 0 in
    let m = max g x in
    omega (arith, count_by_more_yes (λ y. leb y m) xs i 0 lt (le-leb x m (omega arith)), within_more g m (take i xs) (omega arith), within_first m i xs, all)

pub few_within : (xs : List ℕ) (i g : ℕ) → i < length xs → ((v : ℕ) → v < g → count_within v (take i xs) < i)
    → (v : ℕ) → v < max g (get_or xs i 0) → count_within v (take (i + 1) xs) < i + 1
few_within xs i g lt few v less =
    let x = get_or xs i 0 in
    elim (leb_tells x v) [
      | inl held ↦ omega (arith, count_by_more_yes (λ y. leb y v) xs i 0 lt held.0, few v (omega (arith, less, held.1)))
      | inr missed ↦ omega (arith, count_by_more_no (λ y. leb y v) xs i 0 lt missed.0, within_first v i xs)
    ]

pub at_the_end : (xs : List ℕ) (i g : ℕ) → length xs ≤ i → count_within g (take i xs) ≡ i → ((v : ℕ) → v < g → count_within v (take i xs) < i)
    → IsQuantile 100 xs g
at_the_end xs i g over all few =
    let whole : take i xs ≡ xs = take_all i xs over in
    let most = count_by-le-length (λ x. leb x g) xs in
    let counted : count_within g xs ≡ i = subst (λ ys. count_within g ys ≡ i) whole all in
    record {
      within = omega (arith, counted, over);
      least = λ v less. omega (arith, subst (λ ys. count_within v ys < i) whole (few v less), counted, most);
    }

pub short_below : (percent : ℕ) (xs : List ℕ) (most v : ℕ) → IsShort percent xs most → v ≤ most → IsShort percent xs v
short_below percent xs most v short le = omega (arith, short, within_more v most xs le)

-- at most a hundred of a hundred are within what all are
pub enough : (percent : ℕ) (xs : List ℕ) (g : ℕ) → percent ≤ 100 → IsQuantile 100 xs g → IsWithin percent xs g
enough percent xs g few all = omega (arith, mul-le percent (length xs) 100 (length xs) few (omega arith), all.within)
