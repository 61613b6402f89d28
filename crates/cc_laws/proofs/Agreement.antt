-- In a cluster each row was written by its node, so any two views agree, and merge either way round.
--     all_written                a row of a view in the cluster was written
--     one_value, views_commute   no number of a node stands for two values
use Rattle.std.proofs.Common.{◌≡◌, ℕ, List, take, drop, refl, sym, ap, subst, ◌∙◌, arith}
use Rattle.std.specs.Prelude.{Option, Some, None, slice_get}
use Rattle.std.specs.FinMap as table
use Rattle.std.proofs.lemmas.List.{take-append-drop}
use Rattle.std.proofs.lemmas.Option.{same_Some}
use Rattle.cc_views.specs.Rows.{Pair, ViewMap}
use Rattle.cc_views.specs.Merge.{merge, AgreeAt}
use Rattle.cc_views.specs.MergeLaws.{merge_comm}
use Rattle.cc_views.specs.declared.value.Value.{Value}
use Rattle.cc_messages.specs.declared.event.Event.{Event}
use Rattle.cc_node.specs.Writes.{asked_along}
use Rattle.cc_ops.specs.Ops.{nothing_stored}
use Rattle.cc_laws.specs.Shown.{in_output, Has}
use Rattle.cc_laws.specs.Written.{values_of, IsWrite, IsWriteOf}
use Rattle.cc_laws.specs.Clusters.{Member, Cluster, node_at, Move}
use Rattle.cc_laws.specs.Runs.{Run, IsFreshCluster, Occurs, at_member, among_sent, IsWrittenBy}
use Rattle.cc_laws.proofs.Lists.{at_some, all_at}
use Rattle.cc_laws.proofs.ShownViews.{of_shown}
use Rattle.cc_laws.proofs.Rows.{AllRows}
use Rattle.cc_laws.proofs.WritingAsks.{write_front}
use Rattle.cc_laws.proofs.Members.{rows_changed, events_changed, front_rows}
use Rattle.cc_laws.proofs.ClusterSteps.{Released, SentRows, Holds}
use Rattle.cc_laws.proofs.ClusterMoves.{run_holds, fresh_holds}

-- a write of a front of a member's events is one of all of them
write_within : (es : List Event) (j k : ℕ) (x : Value) → IsWriteOf (take j es) k x → IsWriteOf es k x
write_within es j k x is = subst (λ (l : List Event). IsWriteOf l k x) (take-append-drop j es) (write_front (take j es) (drop j es) k x is)

-- what is released is written
released_written : (c : Cluster) (p k : ℕ) (x : Value) → Released c p k x → IsWrittenBy c p k x
released_written c p k x r = (r.0, r.1, write_within r.0.events r.0.released k x r.2)

pub occurring_rows : (c : Cluster) (v : ViewMap) → Holds c → Occurs c v → AllRows (IsWrittenBy c) v
occurring_rows c v h (at_member q m k at shows) =
    let P = IsWrittenBy c in
    let brought = events_changed (Released c) P (released_written c) m.events (h.brought q m at) in
    of_shown (AllRows P) (node_at m k) v (front_rows P q m k (h.sound q m at) brought (λ j x is. (m, at, write_within m.events k j x is))).0 shows
occurring_rows c v h (among_sent s at is) =
    let P = Released c in
    let rows : SentRows P s = all_at (SentRows P) c.sent s h.sent at in
    rows_changed P (IsWrittenBy c) (released_written c) v (at_some (AllRows P) (in_output s.output) v is rows)

one_write : (values : List Value) (k : ℕ) (x y : Value) → IsWrite values k x → IsWrite values k y → x ≡ y
one_write values k x y h g =
    let same : h.0 ≡ g.0 = omega (arith, h.1, g.1) in
    same_Some x y (sym h.2 ∙ ap (slice_get values) same ∙ g.2)

written_once : (c : Cluster) (p k : ℕ) (x y : Value) → IsWrittenBy c p k x → IsWrittenBy c p k y → x ≡ y
written_once c p k x y h g =
    let same : h.0 ≡ g.0 = same_Some h.0 g.0 (sym h.1 ∙ g.1) in
    one_write (values_of nothing_stored (asked_along g.0.events)) k x y (subst (λ (m : Member). IsWriteOf m.events k x) same h.2) g.2

agree_by : (a b : Option Pair) → ((k : ℕ) (x y : Value) → a ≡ Some (k, x) → b ≡ Some (k, y) → x ≡ y) → AgreeAt a b
agree_by None b h = tt
agree_by (Some p) None h = tt
agree_by (Some p) (Some q) h = λ same. h p.0 p.1 q.1 refl (λ i. Some (sym same i, q.1))

module _ (c d : Cluster) (moves : List (ℕ × Move)) (fresh : IsFreshCluster c) (run : Run c moves d) where
  pub all_written : (v : ViewMap) → Occurs d v → (p k : ℕ) (x : Value) → Has v p k x → IsWrittenBy d p k x
  all_written v occurs p k x has =
      at_some (λ (e : Pair). IsWrittenBy d p e.0 e.1) (table.get v p) (k, x) has (occurring_rows d v (run_holds c moves d (fresh_holds c fresh) run) occurs p)

  pub one_value : (v w : ViewMap) → Occurs d v → Occurs d w → (p k : ℕ) (x y : Value) → Has v p k x → Has w p k y → x ≡ y
  one_value v w first second p k x y here there = written_once d p k x y (all_written v first p k x here) (all_written w second p k y there)

  pub views_commute : (v w : ViewMap) → Occurs d v → Occurs d w → merge v w ≡ merge w v
  views_commute v w first second =
      merge_comm v w (λ p. agree_by (table.get v p) (table.get w p) (λ k x y here there. one_value v w first second p k x y here there))
