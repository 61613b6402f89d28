-- Each own row in a node's view is one that it wrote, as long as no view is delivered that has another one.
--     own_last          the one in the view is that of the last write
--     own_written       an own row at a point of a history was written by the ask of its number
use Rattle.std.proofs.Common.{◌≡◌, ℕ, ◌+◌, zero, suc, List, [], ◌∷◌, take, drop, length, refl, sym, ap, subst, ◌∙◌, arith, take-append-drop}
use Rattle.std.specs.Prelude.{Some}
use Rattle.std.specs.FinMap as table
use Rattle.std.specs.Ordering.{nat_cmp}
use Rattle.std.proofs.lemmas.List.{take_all}
use Rattle.std.proofs.lemmas.Option.{same_Some}
use Rattle.cc_views.specs.Rows.{Pair}
use Rattle.cc_views.specs.declared.value.Value.{Value}
use Rattle.cc_messages.specs.declared.event.Event.{Event}
use Rattle.cc_ops.specs.Ops.{nothing_stored}
use Rattle.cc_ops.specs.WaitingAsks.{writes_by, written_by}
use Rattle.cc_node.specs.Node.{Node, step, after, IsLawful}
use Rattle.cc_node.specs.Openings.{Opening, IsOpening, fresh}
use Rattle.cc_node.specs.Histories.{lawful_parts}
use Rattle.cc_node.specs.Writes.{begun_along}
use Rattle.cc_node.proofs.CoreLaws.{own_number_along, own_value_along}
use Rattle.cc_laws.specs.Shown.{Has}
use Rattle.cc_laws.specs.Histories.{view_at, BringsOldRows}
use Rattle.cc_laws.specs.Written.{IsWriteOf}
use Rattle.cc_laws.proofs.OwnRows.{own_pair, HasOwnRow, own_step}
use Rattle.cc_laws.proofs.Steps.{me_next}
use Rattle.cc_laws.proofs.Written.{last_write}
use Rattle.cc_laws.proofs.WritingAsks.{begun_write, write_front, fresh_me, fresh_number, fresh_mine}

own_along : (n : Node) (es : List Event) → HasOwnRow n.core.me n.core.ops → BringsOldRows n es → (j : ℕ)
    → HasOwnRow (after n (take j es)).core.me (after n (take j es)).core.ops
unfolding step
own_along n es own old zero = own
own_along n [] own old (suc j) = own
own_along n (e ∷ es) own old (suc j) = own_along (step n e) es (own_step n.core e own old.0) old.1 j

pub me_along : (n : Node) (es : List Event) → (after n es).core.me ≡ n.core.me
unfolding step
me_along n [] = refl
me_along n (e ∷ es) = me_along (step n e) es ∙ me_next n.core e

fresh_own : (o : Opening) → HasOwnRow (fresh o).core.me (fresh o).core.ops
unfolding fresh
fresh_own o = table.get-empty nat_cmp o.me

-- the own pair is that of a write
at_own : (number : ℕ) (mine x : Value) (k : ℕ) → own_pair number mine ≡ Some (k, x) → (before : ℕ) × (number ≡ suc before) × (k ≡ before + 1) × (mine ≡ x)
at_own zero mine x k is = cc
at_own (suc n) mine x k is =
    let same = same_Some {A = Pair} (suc n, mine) (k, x) is in
    let number : suc n ≡ k = ap (λ (p : Pair). p.0) same in
    (n, refl, omega (arith, number), ap (λ (p : Pair). p.1) same)

-- the own pair in a node's view is that of its last write
abbrev HasOwn : ℕ → Node → Type 0
HasOwn me n = table.get n.core.ops.view me ≡ own_pair n.core.ops.number n.core.ops.mine

own_row : (o : Opening) (es : List Event) → BringsOldRows (fresh o) es → (j : ℕ) → HasOwn o.me (after (fresh o) (take j es))
own_row o es old j =
    let n = after (fresh o) (take j es) in
    let me : n.core.me ≡ o.me = me_along (fresh o) (take j es) ∙ fresh_me o in
    subst (λ (q : ℕ). HasOwn q n) me (own_along (fresh o) es (fresh_own o) old j)

pub own_last : (o : Opening) (es : List Event) → BringsOldRows (fresh o) es → (k : ℕ) (x : Value) → Has (after (fresh o) es).core.ops.view o.me k x
    → ((after (fresh o) es).core.ops.number ≡ k) × ((after (fresh o) es).core.ops.mine ≡ x)
own_last o es old k x here =
    let n = after (fresh o) es in
    let all : take (length es) es ≡ es = take_all (length es) es (omega arith) in
    let own : HasOwn o.me n = subst (λ (l : List Event). HasOwn o.me (after (fresh o) l)) all (own_row o es old (length es)) in
    let write = at_own n.core.ops.number n.core.ops.mine x k (sym own ∙ here) in
    (omega (arith, write.1, write.2), write.3)

pub own_written : (o : Opening) (es : List Event) → IsOpening o → IsLawful (fresh o) es → BringsOldRows (fresh o) es → (j k : ℕ) (x : Value)
    → Has (view_at (fresh o) es j) o.me k x → IsWriteOf es k x
own_written o es opens lawful old j k x here =
    let front = take j es in
    let n = after (fresh o) front in
    let number = n.core.ops.number in
    let mine = n.core.ops.mine in
    let asks = begun_along (fresh o) front in
    let write = at_own number mine x k (sym (own_row o es old j) ∙ here) in
    let count : number ≡ writes_by asks = omega (arith, own_number_along (fresh o) front, fresh_number o) in
    let value : mine ≡ written_by asks nothing_stored = own_value_along (fresh o) front ∙ ap (written_by asks) (fresh_mine o) in
    let last = last_write asks nothing_stored write.0 (sym count ∙ write.1) ∙ ap Some (sym value ∙ write.3) in
    let parts = take-append-drop j es in
    let lawful_front = (lawful_parts (fresh o) front (drop j es) (subst (IsLawful (fresh o)) (sym parts) lawful)).0 in
    subst (λ (l : List Event). IsWriteOf l k x) parts
    (write_front front (drop j es) k x (begun_write o front opens lawful_front k x (write.0, write.2, last)))
