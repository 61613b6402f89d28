-- A node's view only goes on: from each point of a history to each later one.
--     step_follows, views_follow       after an event;  from point to point
--     views_grow                       so it grows
--     comparable, one_value            and no number stands for two values
use Rattle.std.proofs.Common.{◌≡◌, ℕ, ◌<◌, ◌≤◌, zero, suc, true, false, cond, nat_lt, List, [], ◌∷◌, refl, sym, ap, subst, ◌∙◌, inl, inr, arith}
use Rattle.std.specs.Prelude.{Option, Some, None, if◌then◌else◌}
use Rattle.std.specs.FinMap as table
use Rattle.std.proofs.lemmas.Bool.{ltb-true, cases_lt}
use Rattle.std.proofs.lemmas.Option.{same_Some}
use Rattle.cc_views.specs.Rows.{Pair, ViewMap}
use Rattle.cc_views.specs.Merge.{merged, merge, IsKept, IsAtMost}
use Rattle.cc_views.specs.MergeLaws.{get-merge}
use Rattle.cc_views.specs.declared.value.Value.{Value}
use Rattle.cc_messages.specs.declared.event.Event.{Event}
use Rattle.cc_ops.specs.declared.pending_operation.Asked.{Asked}
use Rattle.cc_ops.specs.Ops.{Ops}
use Rattle.cc_ops.specs.WaitingAsks.{writes_by}
use Rattle.cc_node.specs.Core.{Core, begun, next}
use Rattle.cc_node.specs.Node.{Node, step, after}
use Rattle.cc_laws.specs.Shown.{in_event, Has}
use Rattle.cc_laws.specs.Orders.{GoesOn, IsFollowedBy, AreComparable}
use Rattle.cc_laws.specs.Histories.{view_at, IsViewOf}
use Rattle.cc_laws.proofs.Steps.{row_of, with_row, ViewStep, view_step}

goes_on_itself : (a : Option Pair) → GoesOn a a
goes_on_itself None = tt
goes_on_itself (Some p) = inr refl

merged_goes_on : (a b : Option Pair) → GoesOn a (merged a b)
merged_goes_on None b = tt
merged_goes_on (Some p) None = inr refl
merged_goes_on (Some p) (Some q) =
    elim (nat_lt p.0 q.0) as (λ b. nat_lt p.0 q.0 ≡ b → GoesOn (Some p) (Some (cond b q p))) [
      | true ↦ λ e. inl (ltb-true p.0 q.0 e)
      | false ↦ λ e. inr refl
    ] refl

goes_on_further : (a b c : Option Pair) → GoesOn a b → GoesOn b c → GoesOn a c
goes_on_further None b c h k = tt
goes_on_further (Some p) None c h k = absurd h
goes_on_further (Some p) (Some q) None h k = absurd k
goes_on_further (Some p) (Some q) (Some r) (inl h) (inl k) = inl (omega (arith, h, k))
goes_on_further (Some p) (Some q) (Some r) (inl h) (inr k) = inl (subst (λ (x : Pair). p.0 < x.0) k h)
goes_on_further (Some p) (Some q) (Some r) (inr h) (inl k) = inl (subst (λ (x : Pair). x.0 < r.0) (sym h) k)
goes_on_further (Some p) (Some q) (Some r) (inr h) (inr k) = inr (h ∙ k)

follows_itself : (v : ViewMap) → IsFollowedBy v v
follows_itself v q = goes_on_itself (table.get v q)

merge_follows : (v w : ViewMap) → IsFollowedBy v (merge v w)
merge_follows v w q = subst (GoesOn (table.get v q)) (sym (get-merge v w q)) (merged_goes_on (table.get v q) (table.get w q))

follows_further : (u v w : ViewMap) → IsFollowedBy u v → IsFollowedBy v w → IsFollowedBy u w
follows_further u v w h k q = goes_on_further (table.get u q) (table.get v q) (table.get w q) (h q) (k q)

row_follows : (me : ℕ) (s : Ops) (asks : List Asked) → IsFollowedBy s.view (with_row me s asks)
row_follows me s asks =
    elim (nat_lt 0 (writes_by asks)) as (λ b. IsFollowedBy s.view (if b then merge s.view (row_of me s asks) else s.view)) [
      | true ↦ merge_follows s.view (row_of me s asks)
      | false ↦ follows_itself s.view
    ]

either_follows : (me : ℕ) (s : Ops) (brought : Option ViewMap) (asks : List Asked) (after : ViewMap) → ViewStep me s brought asks after
    → IsFollowedBy s.view after
either_follows me s brought asks after (inl is) = subst (IsFollowedBy s.view) (sym is) (row_follows me s asks)
either_follows me s brought asks after (inr b) = subst (IsFollowedBy s.view) (sym b.merges) (merge_follows s.view b.view)

pub next_follows : (c : Core) (e : Event) → IsFollowedBy c.ops.view (next c e).ops.view
next_follows c e = either_follows c.me c.ops (in_event e) (begun c e) (next c e).ops.view (view_step c e)

step_follows : (n : Node) (e : Event) → IsFollowedBy n.core.ops.view (step n e).core.ops.view
unfolding step
step_follows n e = next_follows n.core e

from_start : (n : Node) (es : List Event) (k : ℕ) → IsFollowedBy n.core.ops.view (view_at n es k)
from_start n es zero = follows_itself n.core.ops.view
from_start n [] (suc k) = follows_itself n.core.ops.view
from_start n (e ∷ es) (suc k) =
    follows_further n.core.ops.view (step n e).core.ops.view (view_at (step n e) es k) (step_follows n e) (from_start (step n e) es k)

pub views_follow : (n : Node) (es : List Event) (i j : ℕ) → i ≤ j → IsFollowedBy (view_at n es i) (view_at n es j)
views_follow n es zero j h = from_start n es j
views_follow n [] (suc i) zero h = absurd (omega arith)
views_follow n [] (suc i) (suc j) h = follows_itself n.core.ops.view
views_follow n (e ∷ es) (suc i) zero h = absurd (omega arith)
views_follow n (e ∷ es) (suc i) (suc j) h = views_follow (step n e) es i j (omega arith)

kept_by : (a b : Option Pair) → GoesOn a b → IsKept a b
kept_by None b h = tt
kept_by (Some p) None h = h
kept_by (Some p) (Some q) (inl h) = omega (arith, h)
kept_by (Some p) (Some q) (inr h) = omega (arith, ap (λ (e : Pair). e.0) h)

pub at_most_by : (v w : ViewMap) → IsFollowedBy v w → IsAtMost v w
at_most_by v w h q = kept_by (table.get v q) (table.get w q) (h q)

pub views_grow : (n : Node) (es : List Event) (i j : ℕ) → i ≤ j → IsAtMost (view_at n es i) (view_at n es j)
views_grow n es i j le = at_most_by (view_at n es i) (view_at n es j) (views_follow n es i j le)

one_pair : (a b : Option Pair) (p q : Pair) → GoesOn a b → a ≡ Some p → b ≡ Some q → p.0 ≡ q.0 → p ≡ q
one_pair None b p q h is there same = cc
one_pair (Some r) None p q h is there same = absurd h
one_pair (Some r) (Some s) p q (inl h) is there same =
    let first : r ≡ p = same_Some r p is in
    let second : s ≡ q = same_Some s q there in
    let below : p.0 < q.0 = subst (λ (x : Pair). x.0 < q.0) first (subst (λ (x : Pair). r.0 < x.0) second h) in
    absurd (omega (arith, below, same))
one_pair (Some r) (Some s) p q (inr h) is there same = sym (same_Some r p is) ∙ h ∙ same_Some s q there

later_value : (n : Node) (es : List Event) (i j : ℕ) → i ≤ j → (p k : ℕ) (x y : Value) → Has (view_at n es i) p k x → Has (view_at n es j) p k y → x ≡ y
later_value n es i j le p k x y here there =
    ap (λ (e : Pair). e.1) (one_pair (table.get (view_at n es i) p) (table.get (view_at n es j) p) (k, x) (k, y) (views_follow n es i j le p) here there refl)

-- any two views of one history, whichever came first
module _ (n : Node) (es : List Event) (v w : ViewMap) (of_v : IsViewOf n es v) (of_w : IsViewOf n es w) where
  pub comparable : AreComparable v w
  comparable = elim (cases_lt of_v.0 of_w.0) as (λ _. AreComparable v w) [
    | inl less ↦ inl (subst (λ (u : ViewMap). IsAtMost u w) (sym of_v.1)
        (subst (IsAtMost (view_at n es of_v.0)) (sym of_w.1) (views_grow n es of_v.0 of_w.0 (omega (arith, less)))))
    | inr le ↦ inr (subst (λ (u : ViewMap). IsAtMost u v) (sym of_w.1)
        (subst (IsAtMost (view_at n es of_w.0)) (sym of_v.1) (views_grow n es of_w.0 of_v.0 le)))
  ]

  pub one_value : (p k : ℕ) (x y : Value) → Has v p k x → Has w p k y → x ≡ y
  one_value p k x y here there =
      let first : Has (view_at n es of_v.0) p k x = subst (λ (u : ViewMap). Has u p k x) of_v.1 here in
      let second : Has (view_at n es of_w.0) p k y = subst (λ (u : ViewMap). Has u p k y) of_w.1 there in
      elim (cases_lt of_v.0 of_w.0) as (λ _. x ≡ y) [
        | inl less ↦ later_value n es of_v.0 of_w.0 (omega (arith, less)) p k x y first second
        | inr le ↦ sym (later_value n es of_w.0 of_v.0 le p k y x second first)
      ]
