-- What holds of each element of a list, and what a map has after an insertion.
--     both_all, front_all                 of two lists together, and of the first of them
--     all_map, all_mapped, all_unmapped   of what follows from it, and of elements that are made of others
--     if_at                               what holds of the value that is there
--     inserted_here, inserted_beside      at the key of an insertion, and at others
use Rattle.std.proofs.Common.{◌≡◌, ℕ, true, false, nat_eq, List, [], ◌∷◌, ◌++◌, subst, ◌∙◌}
use Rattle.std.specs.Prelude.{Option, Some, IfSome, map}
use Rattle.std.specs.List.{AllByRecursion}
use Rattle.std.specs.Ordering.{nat_cmp}
use Rattle.std.specs.FinMap as table
use Rattle.std.specs.FinMap.{FinMap}
use Rattle.std.proofs.lemmas.Bool.{cond-true, cond-false}
use Rattle.cc_views.specs.NatSets.{get-insert_key}

pub both_all : {X : Type 0} (P : X → Type 0) (xs ys : List X) → AllByRecursion P xs → AllByRecursion P ys → AllByRecursion P (xs ++ ys)
both_all P [] ys h k = k
both_all P (x ∷ xs) ys h k = (h.0, both_all P xs ys h.1 k)

pub front_all : {X : Type 0} (P : X → Type 0) (xs ys : List X) → AllByRecursion P (xs ++ ys) → AllByRecursion P xs
front_all P [] ys h = tt
front_all P (x ∷ xs) ys h = (h.0, front_all P xs ys h.1)

pub all_map : {X : Type 0} (P Q : X → Type 0) → ((x : X) → P x → Q x) → (xs : List X) → AllByRecursion P xs → AllByRecursion Q xs
all_map P Q f [] h = tt
all_map P Q f (x ∷ xs) h = (f x h.0, all_map P Q f xs h.1)

pub all_mapped : {X Y : Type 0} (P : Y → Type 0) (f : X → Y) (xs : List X) → AllByRecursion (λ x. P (f x)) xs → AllByRecursion P (map f xs)
all_mapped P f [] h = tt
all_mapped P f (x ∷ xs) h = (h.0, all_mapped P f xs h.1)

pub all_unmapped : {X Y : Type 0} (P : Y → Type 0) (f : X → Y) (xs : List X) → AllByRecursion P (map f xs) → AllByRecursion (λ x. P (f x)) xs
all_unmapped P f [] h = tt
all_unmapped P f (x ∷ xs) h = (h.0, all_unmapped P f xs h.1)

pub if_at : {X : Type 0} (P : X → Type 0) (o : Option X) (x : X) → o ≡ Some x → IfSome o P → P x
if_at P o x e h = subst (λ u. IfSome u P) e h

module _ {X : Type 0} (m : FinMap nat_cmp X) (k : ℕ) (v : X) (q : ℕ) where
  pub inserted_here : nat_eq q k ≡ true → table.get (table.insert m k v) q ≡ Some v
  inserted_here e = get-insert_key m k v q ∙ cond-true (nat_eq q k) (Some v) (table.get m q) e

  pub inserted_beside : nat_eq q k ≡ false → table.get (table.insert m k v) q ≡ table.get m q
  inserted_beside e = get-insert_key m k v q ∙ cond-false (nat_eq q k) (Some v) (table.get m q) e
