-- One member of a cluster: of each row that it shows or puts out holds what holds of those that came in and were written.
--     IsSound q m           it began well, under its own id, accepted what wasn't refused, and released what is durable
--     rows_changed, ..      what follows from P holds wherever P does
--     front_rows            of all that the node shows after a front of its events, and of all that it puts out along it
--     rest_rows             of what it puts out along the rest of a front
use Rattle.std.proofs.Common.{◌≡◌, ℕ, ◌≤◌, List, ◌++◌, take, drop, length, sym, ap, subst, ◌∙◌}
use Rattle.std.specs.FinMap as table
use Rattle.std.specs.List.{AllByRecursion}
use Rattle.std.proofs.lemmas.List.{take-append-drop, take-take}
use Rattle.std.proofs.lemmas.Option.{IfSome_then}
use Rattle.cc_views.specs.Rows.{ViewMap}
use Rattle.cc_views.specs.declared.value.Value.{Value}
use Rattle.cc_messages.specs.declared.event.Event.{Event}
use Rattle.cc_messages.specs.declared.output.Output.{Output}
use Rattle.cc_node.specs.Node.{Node, after, line, IsLawful}
use Rattle.cc_node.specs.Openings.{Opening, IsOpening, fresh}
use Rattle.cc_node.specs.Histories.{line-append, lawful_parts}
use Rattle.cc_laws.specs.Shown.{in_output, in_event}
use Rattle.cc_laws.specs.Written.{IsWriteOf}
use Rattle.cc_laws.specs.Clusters.{Member, node_at}
use Rattle.cc_laws.proofs.Lists.{all_rest, all_take, all_changed}
use Rattle.cc_laws.proofs.ShownParts.{OfOutput}
use Rattle.cc_laws.proofs.ShownViews.{ShowsOnly, all_shown, fresh_shows}
use Rattle.cc_laws.proofs.Rows.{AllRows, EventRows, rows_empty, rows_along}
use Rattle.cc_laws.proofs.WritingAsks.{fresh_writes}

pub record IsSound (q : ℕ) (m : Member) : Type 0 where
  pub opening : IsOpening m.opening
  pub me : m.opening.me ≡ q
  pub lawful : IsLawful (fresh m.opening) m.events
  pub released : m.released ≤ m.durable
  pub durable : m.durable ≤ length m.events

pub lawful_front : (n : Node) (es : List Event) (k : ℕ) → IsLawful n es → IsLawful n (take k es)
lawful_front n es k h = (lawful_parts n (take k es) (drop k es) (subst (IsLawful n) (sym (take-append-drop k es)) h)).0

-- a front is a shorter one and the rest
pub front_parts : (j k : ℕ) (es : List Event) → j ≤ k → take j es ++ drop j (take k es) ≡ take k es
front_parts j k es le = ap (λ (l : List Event). l ++ drop j (take k es)) (sym (take-take j k es le)) ∙ take-append-drop j (take k es)

abbrev pub OutputRows : (ℕ → ℕ → Value → Type 0) → Output → Type 0
OutputRows P o = OfOutput (AllRows P) o

module _ (P R : ℕ → ℕ → Value → Type 0) (f : (p k : ℕ) (x : Value) → P p k x → R p k x) where
  pub rows_changed : (v : ViewMap) → AllRows P v → AllRows R v
  rows_changed v h q = IfSome_then (table.get v q) (h q) (λ e. f q e.0 e.1)

  pub output_changed : (o : Output) → OutputRows P o → OutputRows R o
  output_changed o h = IfSome_then (in_output o) h rows_changed

  event_changed : (e : Event) → EventRows P e → EventRows R e
  event_changed e h = IfSome_then (in_event e) h rows_changed

  pub events_changed : (es : List Event) → AllByRecursion (EventRows P) es → AllByRecursion (EventRows R) es
  events_changed es h = all_changed (EventRows P) (EventRows R) event_changed es h

module _ (P : ℕ → ℕ → Value → Type 0) where
  -- of a node from its opening on
  opened_rows : (o : Opening) (es : List Event) → IsOpening o → IsLawful (fresh o) es → AllByRecursion (EventRows P) es
      → ((k : ℕ) (x : Value) → IsWriteOf es k x → P o.me k x)
      → ShowsOnly (AllRows P) (after (fresh o) es) × AllByRecursion (OutputRows P) (line (fresh o) es)
  opened_rows o es opens lawful brought wrote =
      let start : ShowsOnly (AllRows P) (fresh o) = fresh_shows (AllRows P) o (rows_empty P) in
      all_shown (AllRows P) (fresh o) es start (rows_along P (fresh o) es start.view brought (fresh_writes P o es opens lawful wrote))

  pub front_rows : (q : ℕ) (m : Member) (k : ℕ) → IsSound q m → AllByRecursion (EventRows P) m.events
      → ((j : ℕ) (x : Value) → IsWriteOf (take k m.events) j x → P q j x)
      → ShowsOnly (AllRows P) (node_at m k) × AllByRecursion (OutputRows P) (line (fresh m.opening) (take k m.events))
  front_rows q m k sound brought wrote =
      opened_rows m.opening (take k m.events) sound.opening (lawful_front (fresh m.opening) m.events k sound.lawful) (all_take (EventRows P) k m.events brought)
      (λ j x is. subst (λ (p : ℕ). P p j x) (sym sound.me) (wrote j x is))

  pub rest_rows : (q : ℕ) (m : Member) (j k : ℕ) → j ≤ k → IsSound q m → AllByRecursion (EventRows P) m.events
      → ((i : ℕ) (x : Value) → IsWriteOf (take k m.events) i x → P q i x)
      → AllByRecursion (OutputRows P) (line (node_at m j) (drop j (take k m.events)))
  rest_rows q m j k le sound brought wrote =
      let start = fresh m.opening in
      let xs = take j m.events in
      let ys = drop j (take k m.events) in
      all_rest (OutputRows P) (line start xs) (line (after start xs) ys)
      (subst (AllByRecursion (OutputRows P)) (ap (line start) (sym (front_parts j k m.events le)) ∙ line-append start xs ys)
      (front_rows q m k sound brought wrote).1)
