-- Places in a list of events, and what happens at one place alone.
--     Place, place_in         an event of a list, with those before it and behind it
--     Order, split_order      of two places of one list one comes first, or they are one
--     after_push              a node after one event more
--     at_once                 a count that never falls is raised to a value at one place alone
use Rattle.std.proofs.Common.{◌≡◌, ℕ, ◌<◌, ◌≤◌, List, [], ◌∷◌, ◌++◌, refl, sym, ap, subst, ◌∙◌, arith, append_assoc}
use Rattle.cc_messages.specs.declared.event.Event.{Event}
use Rattle.cc_node.specs.Node.{Node, step, after, IsLawful}
use Rattle.cc_node.specs.Histories.{after-append, lawful_parts}

pub record Place (es : List Event) : Type 0 where
  pub before : List Event
  pub here : Event
  pub later : List Event
  pub parts : es ≡ before ++ here ∷ later

-- a place in a front is one in the list
abbrev pub place_in : (es front rest : List Event) → es ≡ front ++ rest → Place front → Place es
place_in es front rest parts p = record {
  before = p.before;
  here = p.here;
  later = p.later ++ rest;
  parts = parts ∙ ap (λ (l : List Event). l ++ rest) p.parts ∙ append_assoc p.before (p.here ∷ p.later) rest;
}

pub data Order {X : Type 0} (xs : List X) (x : X) (us : List X) (u : X) : Type 0 where
  at_same : xs ≡ us → x ≡ u → Order xs x us u
  at_before : (more : List X) → us ≡ xs ++ x ∷ more → Order xs x us u
  at_behind : (more : List X) → xs ≡ us ++ u ∷ more → Order xs x us u

pub same_head : {X : Type 0} (x y : X) (xs ys : List X) → x ∷ xs ≡ y ∷ ys → x ≡ y
same_head x y xs ys e = cc

pub same_tail : {X : Type 0} (x y : X) (xs ys : List X) → x ∷ xs ≡ y ∷ ys → xs ≡ ys
same_tail x y xs ys e = cc

pub split_order : {X : Type 0} (xs ys us vs : List X) (x u : X) → xs ++ x ∷ ys ≡ us ++ u ∷ vs → Order xs x us u
split_order [] ys [] vs x u e = at_same refl (same_head x u ys vs e)
split_order [] ys (w ∷ us) vs x u e = at_before us (ap (λ h. h ∷ us) (sym (same_head x w ys (us ++ u ∷ vs) e)))
split_order (w ∷ xs) ys [] vs x u e = at_behind xs (ap (λ h. h ∷ xs) (same_head w u (xs ++ x ∷ ys) vs e))
split_order (w ∷ xs) ys (z ∷ us) vs x u e =
    let first = same_head w z (xs ++ x ∷ ys) (us ++ u ∷ vs) e in
    elim (split_order xs ys us vs x u (same_tail w z (xs ++ x ∷ ys) (us ++ u ∷ vs) e)) as (λ _. Order (w ∷ xs) x (z ∷ us) u) [
      | at_same is at ↦ at_same (λ i. first i ∷ is i) at
      | at_before more is ↦ at_before more (λ i. sym first i ∷ is i)
      | at_behind more is ↦ at_behind more (λ i. first i ∷ is i)
    ]

pub after_push : (n : Node) (es : List Event) (e : Event) → after n (es ++ e ∷ []) ≡ step (after n es) e
after_push n es e = after-append n es (e ∷ [])

pub front_more : (xs ys : List Event) (e : Event) → xs ++ e ∷ ys ≡ (xs ++ e ∷ []) ++ ys
front_more xs ys e = sym (append_assoc xs (e ∷ []) ys)

-- a list that is in two parts
pub parts_more : (es xs ys : List Event) (e : Event) → es ≡ xs ++ e ∷ ys → es ≡ (xs ++ e ∷ []) ++ ys
parts_more es xs ys e is = is ∙ front_more xs ys e

pub after_parts : (n : Node) (es xs ys : List Event) → es ≡ xs ++ ys → after n es ≡ after (after n xs) ys
after_parts n es xs ys is = ap (after n) is ∙ after-append n xs ys

module _ (mark : Node → ℕ) (rises : (n : Node) (es : List Event) → IsLawful n es → mark n ≤ mark (after n es)) where
  -- at a front no higher
  pub front_low : (n : Node) (es xs ys : List Event) → IsLawful n es → es ≡ xs ++ ys → mark (after n xs) ≤ mark (after n es)
  front_low n es xs ys lawful parts =
      let more = (lawful_parts n xs ys (subst (IsLawful n) parts lawful)).1 in
      subst (λ (m : Node). mark (after n xs) ≤ mark m) (sym (after_parts n es xs ys parts)) (rises (after n xs) ys more)

  -- before a later place no higher than behind an earlier one
  between : (n : Node) (es : List Event) → IsLawful n es → (p : Place es) (xs more : List Event) (e : Event) → p.before ≡ xs ++ e ∷ more
      → mark (after n (xs ++ e ∷ [])) ≤ mark (after n p.before)
  between n es lawful p xs more e is =
      let to_p = (lawful_parts n p.before (p.here ∷ p.later) (subst (IsLawful n) p.parts lawful)).0 in
      front_low n p.before (xs ++ e ∷ []) more to_p (parts_more p.before xs more e is)

  pub at_once : (n : Node) (es : List Event) → IsLawful n es → (p q : Place es) (t : ℕ) → mark (after n p.before) < t
      → t ≤ mark (after n (p.before ++ p.here ∷ [])) → mark (after n q.before) < t → t ≤ mark (after n (q.before ++ q.here ∷ []))
      → (p.before ≡ q.before) × (p.here ≡ q.here)
  at_once n es lawful p q t under over low high =
      elim (split_order p.before p.later q.before q.later p.here q.here (sym p.parts ∙ q.parts)) as (λ _. (p.before ≡ q.before) × (p.here ≡ q.here)) [
        | at_same is at ↦ (is, at)
        | at_before more is ↦ absurd (omega (arith, between n es lawful q p.before more p.here is, over, low))
        | at_behind more is ↦ absurd (omega (arith, between n es lawful p q.before more q.here is, high, under))
      ]
