-- What holds of each row that comes in and of each that is written holds of all rows that a node has, keeps and puts out.
--     AllRows P v            P holds of each row of a view
--     WritesAlong P n es     and of each row that is written along a list
--     rows_along             then it holds of each view along it
use Rattle.std.proofs.Common.{◌≡◌, ℕ, ◌+◌, ◌<◌, zero, suc, true, false, cond, nat_eq, nat_lt, List, [], ◌∷◌, refl, sym, ap, subst, ◌∙◌, inl, inr}
use Rattle.std.specs.Prelude.{Option, Some, None, IfSome, if◌then◌else◌}
use Rattle.std.specs.List.{AllByRecursion}
use Rattle.std.specs.Ordering.{nat_cmp}
use Rattle.std.specs.FinMap as table
use Rattle.std.proofs.lemmas.Bool.{ltb-true}
use Rattle.std.proofs.lemmas.Bool.Decides.{eqb_tells}
use Rattle.cc_views.specs.NatSets.{get-insert_key}
use Rattle.cc_views.specs.Rows.{Pair, ViewMap, single}
use Rattle.cc_views.specs.Merge.{merged, merge}
use Rattle.cc_views.specs.MergeLaws.{get-merge}
use Rattle.cc_views.specs.declared.row.Row.{Row}
use Rattle.cc_views.specs.declared.value.Value.{Value}
use Rattle.cc_messages.specs.declared.event.Event.{Event}
use Rattle.cc_ops.specs.declared.pending_operation.Asked.{Asked}
use Rattle.cc_ops.specs.Ops.{Ops}
use Rattle.cc_ops.specs.WaitingAsks.{writes_by, written_by}
use Rattle.cc_node.specs.Core.{Core, begun, next}
use Rattle.cc_node.specs.Node.{Node, step, after}
use Rattle.cc_laws.specs.Shown.{in_event}
use Rattle.cc_laws.specs.Histories.{view_at}
use Rattle.cc_laws.proofs.Lists.{at_some, either}
use Rattle.cc_laws.proofs.Steps.{row_of, with_row, ViewStep, view_step}

-- what the view of one row has
pub get-single : (row : Row) (q : ℕ) → table.get (single row) q ≡ cond (nat_eq q row.node) (Some (row.number, row.value)) None
get-single row q =
    get-insert_key table.empty row.node (row.number, row.value) q ∙ ap (cond (nat_eq q row.node) (Some (row.number, row.value))) (table.get-empty nat_cmp q)

module _ (P : ℕ → ℕ → Value → Type 0) where
  abbrev OfPair : ℕ → Option Pair → Type 0
  OfPair q o = IfSome o (λ e. P q e.0 e.1)

  abbrev pub AllRows : ViewMap → Type 0
  AllRows v = (q : ℕ) → OfPair q (table.get v q)

  some_merged : (q : ℕ) (a b : Option Pair) → OfPair q a → OfPair q b → OfPair q (merged a b)
  some_merged q None None h k = tt
  some_merged q None (Some y) h k = k
  some_merged q (Some x) None h k = h
  some_merged q (Some x) (Some y) h k = either (λ (e : Pair). P q e.0 e.1) (nat_lt x.0 y.0) y x k h

  rows_merge : (v w : ViewMap) → AllRows v → AllRows w → AllRows (merge v w)
  rows_merge v w h k q = subst (OfPair q) (sym (get-merge v w q)) (some_merged q (table.get v q) (table.get w q) (h q) (k q))

  pub rows_empty : AllRows table.empty
  rows_empty q = subst (OfPair q) (sym (table.get-empty nat_cmp q)) tt

  rows_single : (row : Row) → P row.node row.number row.value → AllRows (single row)
  rows_single row h q = subst (OfPair q) (sym (get-single row q))
      (elim (eqb_tells q row.node) as (λ _. OfPair q (cond (nat_eq q row.node) (Some (row.number, row.value)) None)) [
        | inl e ↦
            subst (λ b. OfPair q (cond b (Some (row.number, row.value)) None)) (sym e.0) (subst (λ k. P k row.number row.value) (sym e.1) h)
        | inr e ↦ subst (λ b. OfPair q (cond b (Some (row.number, row.value)) None)) (sym e.0) tt
      ])

  -- the row of the last write that begins with these asks, if one does
  abbrev pub OfWrite : ℕ → Ops → List Asked → Type 0
  OfWrite me s asks = 0 < writes_by asks → P me (s.number + writes_by asks) (written_by asks s.mine)

  with_row_rows : (me : ℕ) (s : Ops) (asks : List Asked) → AllRows s.view → OfWrite me s asks → AllRows (with_row me s asks)
  with_row_rows me s asks h k =
      elim (nat_lt 0 (writes_by asks)) as (λ b. nat_lt 0 (writes_by asks) ≡ b → AllRows (if b then merge s.view (row_of me s asks) else s.view)) [
        | true ↦ λ is. rows_merge s.view (row_of me s asks) h (rows_single _ (k (ltb-true 0 (writes_by asks) is)))
        | false ↦ λ _. h
      ] refl

  either_rows : (me : ℕ) (s : Ops) (brought : Option ViewMap) (asks : List Asked) (after : ViewMap) → ViewStep me s brought asks after
      → AllRows s.view → IfSome brought AllRows → OfWrite me s asks → AllRows after
  either_rows me s brought asks after (inl is) h k w = subst AllRows (sym is) (with_row_rows me s asks h w)
  either_rows me s brought asks after (inr b) h k w = subst AllRows (sym b.merges) (rows_merge s.view b.view h (at_some AllRows brought b.view b.is_brought k))

  abbrev pub EventRows : Event → Type 0
  EventRows e = IfSome (in_event e) AllRows

  abbrev pub WrittenRow : Core → Event → Type 0
  WrittenRow c e = OfWrite c.me c.ops (begun c e)

  abbrev pub WritesAlong : Node → List Event → Type 0
  WritesAlong n [] = Unit {0}
  WritesAlong n (e ∷ es) = WrittenRow n.core e × WritesAlong (step n e) es

  step_rows : (n : Node) (e : Event) → AllRows n.core.ops.view → EventRows e → WrittenRow n.core e → AllRows (step n e).core.ops.view
  unfolding step
  step_rows n e h k w = either_rows n.core.me n.core.ops (in_event e) (begun n.core e) (next n.core e).ops.view (view_step n.core e) h k w

  pub rows_along : (n : Node) (es : List Event) → AllRows n.core.ops.view → AllByRecursion EventRows es → WritesAlong n es → (k : ℕ) → AllRows (view_at n es k)
  rows_along n es h b w zero = h
  rows_along n [] h b w (suc k) = h
  rows_along n (e ∷ es) h b w (suc k) = rows_along (step n e) es (step_rows n e h b.0 w.0) b.1 w.1 k
