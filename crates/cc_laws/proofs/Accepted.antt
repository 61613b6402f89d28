-- What the one history of lives consists of.
--     each_accepted      each of its events is one that a life accepted
--     parts_accepted     they stand in the order in which they were accepted
--     parts_durable      and all that was durable is among them, in order
use Rattle.std.proofs.Common.{inl, inr, ℕ, zero, suc, ◌≤◌, List, [], ◌∷◌, ◌++◌, take, refl, sym, ap, subst, arith, ◌+◌, length}
use Rattle.std.specs.List.{Contains}
use Rattle.std.proofs.lemmas.List.Elements.{Contains-append_right, Contains-append_cases}
use Rattle.std.proofs.lemmas.List.{take_all}
use Rattle.cc_messages.specs.declared.event.Event.{Event}
use Rattle.cc_node.specs.Node.{Node, after}
use Rattle.cc_laws.specs.Lives.{Life, AreParts, accepted_along, durable_along, IsSubsequence}
use Rattle.cc_laws.proofs.Lists.{contains_head, contains_front}

pub each_accepted : (n : Node) (ls : List Life) (es : List Event) → AreParts n ls es → (e : Event) → Contains es e
    → (l : Life) × Contains ls l × Contains l.events e
each_accepted n [] es none e has = let there : Contains [] e = subst (λ (l : List Event). Contains l e) none has in absurd (omega (arith, there.1))
each_accepted n (l ∷ ls) es h e has =
    elim (Contains-append_cases (take h.kept l.events) h.rest e (subst (λ (l : List Event). Contains l e) h.parts has))
    as (λ _. (k : Life) × Contains (l ∷ ls) k × Contains k.events e) [
      | inl front ↦ (l, contains_head l ls, contains_front h.kept l.events e front)
      | inr later ↦
          let found = each_accepted (after n (take h.kept l.events)) ls h.rest h.follows e later in
          (found.0, Contains-append_right (l ∷ []) ls found.0 found.1, found.2)
    ]

-- ---- subsequences

none_of : (ys : List Event) → IsSubsequence [] ys
none_of [] = refl
none_of (y ∷ ys) = inl (none_of ys)

fronts_of : (j k : ℕ) (xs : List Event) → j ≤ k → IsSubsequence (take j xs) (take k xs)
fronts_of zero k xs le = none_of (take k xs)
fronts_of (suc j) zero xs le = absurd (omega arith)
fronts_of (suc j) (suc k) [] le = refl
fronts_of (suc j) (suc k) (x ∷ xs) le = inr (take j xs, refl, fronts_of j k xs (omega arith))

front_of : (k : ℕ) (xs : List Event) → IsSubsequence (take k xs) xs
front_of k xs =
    subst (IsSubsequence (take k xs)) (take_all (k + length xs) xs (omega arith)) (fronts_of k (k + length xs) xs (omega arith))

both_of : (xs ys us vs : List Event) → IsSubsequence xs ys → IsSubsequence us vs → IsSubsequence (xs ++ us) (ys ++ vs)
both_of xs [] us vs h k = subst (λ (l : List Event). IsSubsequence (l ++ us) vs) (sym h) k
both_of xs (y ∷ ys) us vs (inl h) k = inl (both_of xs ys us vs h k)
both_of xs (y ∷ ys) us vs (inr h) k = inr (h.0 ++ us, ap (λ (l : List Event). l ++ us) h.1, both_of h.0 ys us vs h.2 k)

pub parts_accepted : (n : Node) (ls : List Life) (es : List Event) → AreParts n ls es → IsSubsequence es (accepted_along ls)
parts_accepted n [] es none = none
parts_accepted n (l ∷ ls) es h =
    subst (λ (x : List Event). IsSubsequence x (l.events ++ accepted_along ls)) (sym h.parts)
    (both_of (take h.kept l.events) l.events h.rest (accepted_along ls) (front_of h.kept l.events)
    (parts_accepted (after n (take h.kept l.events)) ls h.rest h.follows))

pub parts_durable : (n : Node) (ls : List Life) (es : List Event) → AreParts n ls es → IsSubsequence (durable_along ls) es
parts_durable n [] es none = subst (λ (x : List Event). IsSubsequence [] x) (sym none) refl
parts_durable n (l ∷ ls) es h =
    subst (λ (x : List Event). IsSubsequence (take l.durable l.events ++ durable_along ls) x) (sym h.parts)
    (both_of (take l.durable l.events) (take h.kept l.events) (durable_along ls) h.rest (fronts_of l.durable h.kept l.events h.has_durable)
    (parts_durable (after n (take h.kept l.events)) ls h.rest h.follows))
