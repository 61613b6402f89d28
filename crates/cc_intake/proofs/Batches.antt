-- What a batch leaves of the entries that were popped.
--     HandedOn, hands_on      of those that were handed over, kept, and popped since
use Rattle.std.proofs.Common.{◌≡◌, ℕ, ◌+◌, ◌≤◌, List, ◌++◌, length, take, Option, sym, ap, ◌∙◌, subst, append_assoc, length-append, arith}
use Rattle.std.proofs.lemmas.List.{take_at}
use Rattle.cc_node.specs.Node.{Node, after}
use Rattle.cc_journal.specs.declared.entry.Entry.{Entry}
use Rattle.cc_journal.specs.Batches.{AreLawful, events_in}
use Rattle.cc_intake.specs.Histories.{life_limit}
use Rattle.cc_intake.specs.Turners.{listed}
use Rattle.cc_intake.specs.Turns.{Gathers}
use Rattle.cc_journal.specs.BatchLaws.{after_both, lawful_front, lawful_rest}

take_front : (xs ys : List Entry) (n : ℕ) → n ≡ length xs → take n (xs ++ ys) ≡ xs
take_front xs ys n is = take_at xs ys n (sym is)

-- before and now are what was popped, n and m how many of it were handed over
pub record HandedOn (opening : Node) (before now : List Entry) (n m : ℕ) (kept' : Option Entry) (batch : List Entry) : Type 0 where
  pub handed : take (n + m) now ≡ take n before ++ batch
  pub whole : now ≡ take (n + m) now ++ listed kept'
  pub count : n + m ≡ length (take (n + m) now)
  pub limit : n + m ≤ life_limit
  pub more : List Entry
  pub behind : take (n + m) now ++ listed kept' ≡ before ++ more
  pub lawful : AreLawful (after opening (events_in (take n before))) batch
  pub state : after opening (events_in (take (n + m) now)) ≡ after (after opening (events_in (take n before))) (events_in batch)

pub hands_on : (opening : Node) (before now : List Entry) (n m : ℕ) (kept taken kept' : Option Entry) (batch : List Entry)
    → taken ≡ kept → before ≡ take n before ++ listed kept → n ≡ length (take n before) → Gathers before taken batch kept' now → m ≡ length batch
    → AreLawful opening now → length now ≤ life_limit
    → HandedOn opening before now n m kept' batch
hands_on opening before now n m kept taken kept' batch same is len gathered count lawful limit =
    let front = take n before ++ batch in
    let split : now ≡ front ++ listed kept' = gathered.1 ∙ ap (λ (l : List Entry). l ++ gathered.0) is ∙ append_assoc (take n before) (listed kept) gathered.0
    ∙ ap (λ (k : Option Entry). take n before ++ (listed k ++ gathered.0)) (sym same)
    ∙ ap (λ (l : List Entry). take n before ++ l) gathered.2 ∙ sym (append_assoc (take n before) batch (listed kept')) in
    let long : n + m ≡ length front = omega (arith, length-append (take n before) batch, len, count) in
    let handed : take (n + m) now ≡ front = ap (take (n + m)) split ∙ take_front front (listed kept') (n + m) long in
    let whole : now ≡ take (n + m) now ++ listed kept' = split ∙ ap (λ (l : List Entry). l ++ listed kept') (sym handed) in
    let all : AreLawful opening (front ++ listed kept') = subst (AreLawful opening) split lawful in
    let total : length now ≡ length (front ++ listed kept') = ap (λ (l : List Entry). length l) split in
    record {
      handed = handed;
      whole = whole;
      count = long ∙ ap (λ (l : List Entry). length l) (sym handed);
      limit = omega (arith, length-append front (listed kept'), total, limit, long);
      more = gathered.0;
      behind = sym whole ∙ gathered.1;
      lawful = lawful_rest opening (take n before) batch (lawful_front opening front (listed kept') all);
      state = ap (λ (l : List Entry). after opening (events_in l)) handed ∙ after_both opening (take n before) batch;
    }
