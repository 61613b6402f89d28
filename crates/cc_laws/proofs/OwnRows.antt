-- A node's own row in its view is that of its last write, as long as no view is delivered that has another one.
--     own_pair, HasOwnRow        the pair of the last write, if there was one;  it is the node's own pair in its view
--     own_step                   an event keeps it
use Rattle.std.proofs.Common.{◌≡◌, ℕ, ◌+◌, ◌<◌, zero, suc, nat_lt, List, Bool, true, false, cond, refl, sym, ap, ◌∙◌, inl, inr, arith, add-zero}
use Rattle.std.specs.Prelude.{Option, Some, None, IfSome, if◌then◌else◌}
use Rattle.std.specs.FinMap as table
use Rattle.std.proofs.lemmas.Bool.{lt-ltb, le-ltb, eq-eqb, ltb-true, ltb-false}
use Rattle.cc_views.specs.Rows.{Pair, ViewMap}
use Rattle.cc_views.specs.Merge.{merged, merge}
use Rattle.cc_views.specs.MergeLaws.{get-merge}
use Rattle.cc_views.specs.declared.value.Value.{Value}
use Rattle.cc_messages.specs.declared.event.Event.{Event}
use Rattle.cc_ops.specs.declared.pending_operation.Asked.{Asked}
use Rattle.cc_ops.specs.Ops.{Ops}
use Rattle.cc_ops.specs.WaitingAsks.{writes_by, written_by}
use Rattle.cc_node.specs.Core.{Core, begun, next}
use Rattle.cc_node.proofs.CoreLaws.{own_number, own_value}
use Rattle.cc_laws.specs.Shown.{in_event}
use Rattle.cc_laws.specs.Histories.{IsOld, BringsOld}
use Rattle.cc_laws.proofs.Lists.{at_some}
use Rattle.cc_laws.proofs.Rows.{get-single}
use Rattle.cc_laws.proofs.Written.{no_writes}
use Rattle.cc_laws.proofs.Steps.{row_of, with_row, ViewStep, view_step, me_next}

abbrev pub own_pair : ℕ → Value → Option Pair
own_pair zero mine = None
own_pair (suc n) mine = Some (suc n, mine)

abbrev pub HasOwnRow : ℕ → Ops → Type 0
HasOwnRow me s = table.get s.view me ≡ own_pair s.number s.mine

own_some : (number : ℕ) (w : Value) → 0 < number → own_pair number w ≡ Some (number, w)
own_some zero w some = absurd (omega (arith, some))
own_some (suc n) w some = refl

-- later writes go over it
merged_later : (number later : ℕ) (mine w : Value) → number < later → merged (own_pair number mine) (Some (later, w)) ≡ own_pair later w
merged_later zero later mine w more = sym (own_some later w more)
merged_later (suc n) later mine w more =
    let new : Pair = (later, w) in
    let old : Pair = (suc n, mine) in
    ap (λ (b : Bool). Some (cond b new old)) (lt-ltb (suc n) later more) ∙ sym (own_some later w (omega (arith, more)))

-- an old row doesn't
merged_old : (number : ℕ) (mine : Value) (pair : Option Pair) → IsOld number pair → merged (own_pair number mine) pair ≡ own_pair number mine
merged_old zero mine None old = refl
merged_old zero mine (Some p) old = absurd (omega (arith, old.0, old.1))
merged_old (suc n) mine None old = refl
merged_old (suc n) mine (Some p) old =
    let own : Pair = (suc n, mine) in
    ap (λ (b : Bool). Some (cond b p own)) (le-ltb (suc n) p.0 old.1)

pub get_own_row : (me : ℕ) (s : Ops) (asks : List Asked) → table.get (row_of me s asks) me ≡ Some (s.number + writes_by asks, written_by asks s.mine)
get_own_row me s asks =
    get-single _ me ∙ ap (λ b. cond b (Some (s.number + writes_by asks, written_by asks s.mine)) None) (eq-eqb me me refl)

begun_own : (me : ℕ) (s : Ops) (asks : List Asked) → HasOwnRow me s
    → table.get (with_row me s asks) me ≡ own_pair (s.number + writes_by asks) (written_by asks s.mine)
begun_own me s asks own =
    let later = s.number + writes_by asks in
    let w = written_by asks s.mine in
    elim (nat_lt 0 (writes_by asks))
    as (λ b. nat_lt 0 (writes_by asks) ≡ b → table.get (if b then merge s.view (row_of me s asks) else s.view) me ≡ own_pair later w) [
      | true ↦ λ some.
          get-merge s.view (row_of me s asks) me
          ∙ (λ i. merged (own i) (get_own_row me s asks i))
          ∙ merged_later s.number later s.mine w (omega (arith, ltb-true 0 (writes_by asks) some))
      | false ↦ λ none.
          let zero_writes : writes_by asks ≡ 0 = omega (arith, ltb-false 0 (writes_by asks) none) in
          let same : s.number ≡ later = omega (arith, zero_writes) in
          own ∙ (λ i. own_pair (same i) (sym (no_writes asks s.mine zero_writes) i))
    ] refl

either_own : (me : ℕ) (s : Ops) (brought : Option ViewMap) (asks : List Asked) (after : ViewMap) → ViewStep me s brought asks after → HasOwnRow me s
    → IfSome brought (λ v. IsOld s.number (table.get v me)) → table.get after me ≡ own_pair (s.number + writes_by asks) (written_by asks s.mine)
either_own me s brought asks after (inl is) own old = ap (λ v. table.get v me) is ∙ begun_own me s asks own
either_own me s brought asks after (inr b) own old =
    ap (λ v. table.get v me) b.merges ∙ get-merge s.view b.view me
    ∙ ap (λ p. merged p (table.get b.view me)) own
    ∙ merged_old s.number s.mine (table.get b.view me) (at_some (λ v. IsOld s.number (table.get v me)) brought b.view b.is_brought old)
    ∙ ap (λ k. own_pair k s.mine) (sym (add-zero s.number))
    ∙ ap (λ l. own_pair (s.number + writes_by l) (written_by l s.mine)) (sym b.none_begins)

pub own_step : (c : Core) (e : Event) → HasOwnRow c.me c.ops → BringsOld c e → HasOwnRow (next c e).me (next c e).ops
own_step c e own old =
    ap (table.get (next c e).ops.view) (me_next c e)
    ∙ either_own c.me c.ops (in_event e) (begun c e) (next c e).ops.view (view_step c e) own old
    ∙ (λ i. own_pair (sym (own_number c e) i) (sym (own_value c e) i))
