-- Posts under consecutive numbers: their order, what is found under a number, one post more, and the posts above a number.
use Rattle.std.proofs.Common.{◌≡◌, ℕ, zero, suc, ◌+◌, ◌-◌, ◌<◌, ◌≤◌, true, false, List, [], ◌∷◌, ◌++◌, length, get_or, drop, Option, Some, None, refl}
use Rattle.std.proofs.Common.{sym, ap, ◌∙◌, inl, inr, arith}
use Rattle.std.specs.Prelude.{min, nat_lt, IsSome, IfSome, ◌↔◌, option_map}
use Rattle.std.specs.Ordering.{nat_cmp, is_lt}
use Rattle.std.specs.FinMap.Entries.{find, where_key, below_all, is_sorted}
use Rattle.std.proofs.lemmas.Bool.{and_from, cases_lt, lt-ltb, le-ltb}
use Rattle.cc_views.specs.Entries.{cmp_lt, cmp_eq, cmp_gt, find_below}
use Rattle.cc_messages.specs.declared.message.Message.{Message}
use Rattle.cc_outbox.specs.Rows.{numbered}

below_numbered : (k n : ℕ) (ms : List Message) → k ≤ n → below_all nat_cmp k (numbered n ms) ≡ true
below_numbered k n [] le = refl
below_numbered k n (m ∷ ms) le = and_from _ _ (ap is_lt (cmp_lt k (n + 1) (omega arith))) (below_numbered k (n + 1) ms (omega arith))

pub sorted_numbered : (n : ℕ) (ms : List Message) → is_sorted nat_cmp (numbered n ms) ≡ true
sorted_numbered n [] = refl
sorted_numbered n (m ∷ ms) = and_from _ _ (below_numbered (n + 1) (n + 1) ms (omega arith)) (sorted_numbered (n + 1) ms)

pub length-numbered : (n : ℕ) (ms : List Message) → length (numbered n ms) ≡ length ms
length-numbered n [] = refl
length-numbered n (m ∷ ms) = ap suc (length-numbered (n + 1) ms)

-- ---- what is found

pub find_up_to : (n : ℕ) (ms : List Message) (q : ℕ) → q ≤ n → find nat_cmp q (numbered n ms) ≡ None
find_up_to n ms q le = find_below q (numbered n ms) (below_numbered q n ms le)

pub find_past : (n : ℕ) (ms : List Message) (q : ℕ) → n + length ms < q → find nat_cmp q (numbered n ms) ≡ None
find_past n [] q lt = refl
find_past n (m ∷ ms) q lt = rw (cmp_gt q (n + 1) (omega arith)) (find_past (n + 1) ms q (omega arith))

pub find_numbered : (n : ℕ) (ms : List Message) (i q : ℕ) (d : Message) → i < length ms → q ≡ n + i + 1 → find nat_cmp q (numbered n ms) ≡ Some (get_or ms i d)
find_numbered n [] i q d lt is = absurd (omega arith)
find_numbered n (m ∷ ms) zero q d lt is = rw (cmp_eq q (n + 1) (omega arith)) refl
find_numbered n (m ∷ ms) (suc i) q d lt is = rw (cmp_gt q (n + 1) (omega arith)) (find_numbered (n + 1) ms i q d (omega arith) (omega arith))

-- a post that is read by its place is the one of its number
pub read_numbered : {Y : Type 0} (f : Y → Message) (r : Option Y) (n : ℕ) (ms : List Message) (i q : ℕ) → q ≡ n + i + 1
    → (IsSome r ↔ (i < length ms)) → IfSome r (λ x. f x ≡ get_or ms i (f x)) → option_map f r ≡ find nat_cmp q (numbered n ms)
read_numbered f None n ms i q is there read =
    elim (cases_lt i (length ms)) [
      | inl lt ↦ let some : false ≡ true = there.1 lt in cc
      | inr le ↦ sym (find_past n ms q (omega arith))
    ]
read_numbered f (Some x) n ms i q is there read = ap Some read ∙ sym (find_numbered n ms i q (f x) (there.0 refl) is)

-- ---- one post more

pub numbered-append : (n : ℕ) (ms : List Message) (m : Message) (q : ℕ) → q ≡ n + length ms + 1 → numbered n (ms ++ m ∷ []) ≡ numbered n ms ++ (q, m) ∷ []
numbered-append n [] m q is = let same : n + 1 ≡ q = omega arith in ap (λ (k : ℕ). (k, m) ∷ []) same
numbered-append n (x ∷ ms) m q is = ap (λ (es : List (ℕ × Message)). (n + 1, x) ∷ es) (numbered-append (n + 1) ms m q (omega arith))

-- ---- the posts above a number

above_all : (low n : ℕ) (ms : List Message) → low ≤ n → where_key nat_cmp (λ q. nat_lt low q) (numbered n ms) ≡ numbered n ms
above_all low n [] le = refl
above_all low n (m ∷ ms) le = rw (lt-ltb low (n + 1) (omega arith)) (ap (λ (es : List (ℕ × Message)). (n + 1, m) ∷ es) (above_all low (n + 1) ms (omega arith)))

pub numbers_above : (low n : ℕ) (ms : List Message) (d base : ℕ) → d ≡ min (low - n) (length ms) → base ≡ n + d
    → where_key nat_cmp (λ q. nat_lt low q) (numbered n ms) ≡ numbered base (drop d ms)
numbers_above low n [] d base is from =
    let none : d ≡ 0 = omega arith in ap (λ (k : ℕ). numbered base (drop k [])) (sym none)
numbers_above low n (m ∷ ms) zero base is from =
    let same : n ≡ base = omega arith in
    above_all low n (m ∷ ms) (omega arith) ∙ ap (λ (k : ℕ). numbered k (m ∷ ms)) same
numbers_above low n (m ∷ ms) (suc d) base is from =
    rw (le-ltb low (n + 1) (omega arith)) (numbers_above low (n + 1) ms d base (omega arith) (omega arith))
