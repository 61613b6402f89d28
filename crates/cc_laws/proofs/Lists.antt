-- Of lists and options.
--     either                                      what holds of both holds of the one that a test takes
--     all_both, all_front, all_rest, all_take     what holds of each element of two lists, of a front, of the rest
--     all_at, all_there, all_changed              of one element, where it holds of each that is there, and what follows from it
--     contains_head, contains_at, contains_front  what is in a list
--     some_if, some_of, some_or, some_mapped      what holds of what an option has
--     at_some, of_some                            what holds where it has something
use Rattle.std.proofs.Common.{◌≡◌, ℕ, zero, suc, Bool, true, false, cond, List, [], ◌∷◌, ◌++◌, take, refl, subst, drop, sym, arith, take-append-drop}
use Rattle.std.proofs.lemmas.List.Elements.{All-contains, All-from_recursion, All-weaker, All-contains_itself, recursion_from_All, Contains-append_left}
use Rattle.std.proofs.lemmas.List.Elements.{Contains-append_right}
use Rattle.std.specs.Prelude.{Option, Some, None, IfSome, option_map, if◌then◌else◌}
use Rattle.std.specs.Option.{option_or}
use Rattle.std.specs.Bool.{then_some}
use Rattle.std.specs.List.{AllByRecursion, Contains}

module _ {X : Type 0} (Q : X → Type 0) where
  pub either : (b : Bool) (x y : X) → Q x → Q y → Q (if b then x else y)
  either true x y h k = h
  either false x y h k = k

  pub all_both : (xs ys : List X) → AllByRecursion Q xs → AllByRecursion Q ys → AllByRecursion Q (xs ++ ys)
  all_both [] ys h k = k
  all_both (x ∷ xs) ys h k = (h.0, all_both xs ys h.1 k)

  pub all_front : (xs ys : List X) → AllByRecursion Q (xs ++ ys) → AllByRecursion Q xs
  all_front [] ys h = tt
  all_front (x ∷ xs) ys h = (h.0, all_front xs ys h.1)

  pub all_rest : (xs ys : List X) → AllByRecursion Q (xs ++ ys) → AllByRecursion Q ys
  all_rest [] ys h = h
  all_rest (x ∷ xs) ys h = all_rest xs ys h.1

  pub all_take : (k : ℕ) (xs : List X) → AllByRecursion Q xs → AllByRecursion Q (take k xs)
  all_take zero xs h = tt
  all_take (suc k) [] h = tt
  all_take (suc k) (x ∷ xs) h = (h.0, all_take k xs h.1)

  pub all_at : (xs : List X) (x : X) → AllByRecursion Q xs → Contains xs x → Q x
  all_at xs x h has = All-contains Q xs x (All-from_recursion Q xs h) has

  pub all_there : (xs : List X) → ((x : X) → Contains xs x → Q x) → AllByRecursion Q xs
  all_there xs f = recursion_from_All Q xs (All-weaker (Contains xs) Q f xs (All-contains_itself xs))

  pub some_if : (b : Bool) (x : X) → Q x → IfSome (then_some b x) Q
  some_if true x h = h
  some_if false x h = tt

  pub some_of : (b : Bool) (x y : Option X) → IfSome x Q → IfSome y Q → IfSome (cond b x y) Q
  some_of true x y h k = h
  some_of false x y h k = k

  pub some_or : (x y : Option X) → IfSome x Q → IfSome y Q → IfSome (option_or x y) Q
  some_or None y h k = k
  some_or (Some x) y h k = h

  pub some_mapped : {Y : Type 0} (f : Y → X) (o : Option Y) → ((y : Y) → Q (f y)) → IfSome (option_map f o) Q
  some_mapped f None h = tt
  some_mapped f (Some y) h = h y

  -- what holds of what an option has
  pub at_some : (o : Option X) (x : X) → o ≡ Some x → IfSome o Q → Q x
  at_some o x is h = subst (λ (v : Option X). IfSome v Q) is h

  pub of_some : (o : Option X) → ((x : X) → o ≡ Some x → Q x) → IfSome o Q
  of_some None h = tt
  of_some (Some x) h = h x refl

pub all_changed : {X : Type 0} (Q R : X → Type 0) → ((x : X) → Q x → R x) → (xs : List X) → AllByRecursion Q xs → AllByRecursion R xs
all_changed Q R f [] h = tt
all_changed Q R f (x ∷ xs) h = (f x h.0, all_changed Q R f xs h.1)

pub contains_head : {X : Type 0} (x : X) (xs : List X) → Contains (x ∷ xs) x
contains_head x xs = (0, omega arith, refl)

pub contains_at : {X : Type 0} (xs before later : List X) (x : X) → xs ≡ before ++ x ∷ later → Contains xs x
contains_at xs before later x parts =
    subst (λ l. Contains l x) (sym parts) (Contains-append_right before (x ∷ later) x (contains_head x later))

pub contains_front : {X : Type 0} (k : ℕ) (xs : List X) (x : X) → Contains (take k xs) x → Contains xs x
contains_front k xs x has =
    subst (λ l. Contains l x) (take-append-drop k xs) (Contains-append_left (take k xs) (drop k xs) x has)
