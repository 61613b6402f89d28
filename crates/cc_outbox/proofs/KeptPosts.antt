-- Posts under consecutive numbers are all those from the first to the last.
use Rattle.std.proofs.Common.{◌≡◌, ℕ, ◌+◌, ◌-◌, ◌<◌, ◌≤◌, true, false, List, length, sym, ap, ◌∙◌, inl, inr, arith}
use Rattle.std.specs.Prelude.{IsTrue, is_some}
use Rattle.std.specs.Cmp.{nat_cmp_total}
use Rattle.std.specs.Ordering.{nat_cmp}
use Rattle.std.specs.FinMap as table
use Rattle.std.specs.FinMap.{FinMap}
use Rattle.std.proofs.lemmas.Bool.{cases_lt}
use Rattle.cc_messages.specs.declared.message.Message.{Message}
use Rattle.cc_messages.specs.declared.message.Message.TheVariants as message
use Rattle.cc_outbox.specs.OutboxLaws.{KeepsPosts, make_posts}
use Rattle.cc_outbox.specs.Rows.{numbered}
use Rattle.cc_outbox.proofs.Numbers.{find_up_to, find_past, find_numbered}

-- the posts after number n
abbrev posts_after : ℕ → List Message → FinMap nat_cmp Message
posts_after n ms = table.from_entries (numbered n ms)

module _ (n : ℕ) (ms : List Message) where
  no_post_up_to : (k : ℕ) → k ≤ n → IsTrue (table.contains_key (posts_after n ms) k) → ⊥
  no_post_up_to k le there =
      let none : false ≡ true = sym (ap is_some (table.get-from_entries nat_cmp_total (numbered n ms) k ∙ find_up_to n ms k le)) ∙ there in cc

  no_post_past : (k : ℕ) → n + length ms < k → IsTrue (table.contains_key (posts_after n ms) k) → ⊥
  no_post_past k lt there =
      let none : false ≡ true = sym (ap is_some (table.get-from_entries nat_cmp_total (numbered n ms) k ∙ find_past n ms k lt)) ∙ there in cc

  posts_within : (k : ℕ) → IsTrue (table.contains_key (posts_after n ms) k) → (n < k) × (k ≤ n + length ms)
  posts_within k there = (
    elim (cases_lt n k) as (λ _. n < k) [
      | inl lt ↦ lt
      | inr le ↦ absurd (no_post_up_to k le there)
    ],
    elim (cases_lt (n + length ms) k) as (λ _. k ≤ n + length ms) [
      | inl lt ↦ absurd (no_post_past k lt there)
      | inr le ↦ le
    ],
  )

  posts_all : (k : ℕ) → n < k → k ≤ n + length ms → IsTrue (table.contains_key (posts_after n ms) k)
  posts_all k lt le =
      ap is_some (table.get-from_entries nat_cmp_total (numbered n ms) k ∙ find_numbered n ms (k - n - 1) k (message.Enter 0) (omega arith) (omega arith))

-- the posts that are kept under the last numbers up to `last`
pub keeps_numbered : (last : ℕ) (ms : List Message) → length ms ≤ last → length ms ≤ 512
    → KeepsPosts (last - length ms) last (posts_after (last - length ms) ms)
keeps_numbered last ms le room =
    let n = last - length ms in
    let same : n + length ms ≡ last = omega arith in
    make_posts n last (posts_after n ms)
    (λ k there. let both = posts_within n ms k there in (both.0, omega (arith, both.1, same)))
    (λ k lt top. posts_all n ms k lt (omega (arith, top, same)))
    (omega arith)
