-- Tests of rows, and what they say of the tables that the rows make.
--     entries_pass                       a test of each entry, and what then holds at each key
--     ids_within, view_within            rows that all name a key of another table
--     links_pass, sessions_pass          rows within their bounds
--     answers_finished, asks_pass        which answers are kept; asks that are their sessions' last requests
use Rattle.std.proofs.Common.{◌≡◌, ℕ, ◌-◌, ◌<◌, ◌≤◌, Bool, true, false, not, ◌&&◌, List, [], ◌∷◌, map, refl, sym, ap, subst, ◌∙◌}
use Rattle.std.specs.Prelude.{◌↔◌, ◌==◌, Option, Some, None, IfSome, IsTrue, is_some}
use Rattle.std.specs.Option.{option_map_or}
use Rattle.std.specs.List.{list_all, AllByRecursion}
use Rattle.std.specs.Ordering.{nat_cmp}
use Rattle.std.specs.FinMap as table
use Rattle.std.specs.FinMap.{FinMap}
use Rattle.std.proofs.lemmas.Bool.{and_parts, and_from, eqb-true, eq-eqb, leb-true, le-leb, ltb-true, lt-ltb, not-true, not_from_false}
use Rattle.std.proofs.lemmas.Option.{same_Some, IfSome_then}
use Rattle.cc_views.specs.Limits.{counter_limit}
use Rattle.cc_views.specs.MapLaws.{all_entries, each_entry}
use Rattle.cc_views.specs.NatSets as set
use Rattle.cc_views.specs.NatSets.{NatSet, IsWithin}
use Rattle.cc_views.specs.Rows as views
use Rattle.cc_views.specs.Rows.{ViewMap}
use Rattle.cc_views.specs.declared.row.Row.{Row}
use Rattle.cc_links.specs.Links.{Link, Links, IsLinkWithin, LinksWithin}
use Rattle.cc_links.specs.Rows as links
use Rattle.cc_links.specs.Rows.{link_of}
use Rattle.cc_links.specs.declared.link_row.LinkRow.{LinkRow}
use Rattle.cc_sessions.specs.Sessions.{Requests}
use Rattle.cc_sessions.specs.Rows as sessions
use Rattle.cc_sessions.specs.declared.session_row.SessionRow.{SessionRow}
use Rattle.cc_outbox.specs.Outbox.{Outbox}
use Rattle.cc_outbox.specs.Rows as kept
use Rattle.cc_outbox.specs.declared.kept_answer.KeptAnswer.{KeptAnswer}
use Rattle.cc_ops.specs.WaitingAsks.{has_session}
use Rattle.cc_ops.specs.declared.pending_operation.Asked.{Asked}
use Rattle.cc_node.specs.Lawful.{SessionsWithin, IsLastOf, KeepsAnswers}
use Rattle.cc_node.specs.Parts.{is_link_within, is_request_within, is_last_of}

list_all-map : {X Y : Type 0} (p : Y → Bool) (f : X → Y) (xs : List X) → list_all p (map f xs) ≡ list_all (λ x. p (f x)) xs
list_all-map p f [] = refl
list_all-map p f (x ∷ xs) = ap (λ (b : Bool). p (f x) && b) (list_all-map p f xs)

all_passed : {X : Type 0} (p : X → Bool) (xs : List X) → IsTrue (list_all p xs) → AllByRecursion (λ x. IsTrue (p x)) xs
all_passed p [] h = tt
all_passed p (x ∷ xs) h = let both = and_parts _ _ h in (both.0, all_passed p xs both.1)

all_pass : {X : Type 0} (p : X → Bool) (xs : List X) → AllByRecursion (λ x. IsTrue (p x)) xs → IsTrue (list_all p xs)
all_pass p [] h = refl
all_pass p (x ∷ xs) h = and_from _ _ h.0 (all_pass p xs h.1)

-- each entry passes just where what is at each key does
pub entries_pass : {X : Type 0} (p : ℕ → X → Bool) (m : FinMap nat_cmp X)
    → IsTrue (list_all (λ e. p e.0 e.1) (table.entries m)) ↔ ((q : ℕ) → IfSome (table.get m q) (λ x. IsTrue (p q x)))
entries_pass p m = (
  λ h q. subst (λ o. IfSome o (λ x. IsTrue (p q x))) (sym (table.get-entries m q))
      (each_entry (λ k x. IsTrue (p k x)) (table.entries m) (all_passed (λ e. p e.0 e.1) (table.entries m) h) q),
  λ h. all_pass (λ e. p e.0 e.1) (table.entries m)
      (all_entries (λ k x. IsTrue (p k x)) (table.entries m) (table.entries_sorted m)
      (λ q. subst (λ o. IfSome o (λ x. IsTrue (p q x))) (table.get-entries m q) (h q))),
)

-- ---- keys that are keys of another table

at_some : {X : Type 0} (o : Option X) (P : Type 0) → IfSome o (λ _. P) → is_some o ≡ true → P
at_some None P h there = cc
at_some (Some x) P h there = h

if_some : {X : Type 0} (o : Option X) (P : Type 0) → (is_some o ≡ true → P) → IfSome o (λ _. P)
if_some None P h = tt
if_some (Some x) P h = h refl

keys_within : {X Y : Type 0} (m : FinMap nat_cmp X) (n : FinMap nat_cmp Y) → IsTrue (list_all (λ e. table.contains_key n e.0) (table.entries m)) ↔ IsWithin m n
keys_within m n =
    let pass = entries_pass (λ q _. table.contains_key n q) m in (
      λ h q there. at_some (table.get m q) (IsTrue (table.contains_key n q)) (pass.0 h q) there,
      λ h. pass.1 (λ q. if_some (table.get m q) (IsTrue (table.contains_key n q)) (h q)),
    )

-- a test of rows is a test of the entries that they are of
rows_tested : {E R : Type 0} (p : R → Bool) (row : E → R) (es : List E) (P : Type 0) → IsTrue (list_all (λ e. p (row e)) es) ↔ P
    → IsTrue (list_all p (map row es)) ↔ P
rows_tested p row es P h = (λ k. h.0 (sym (list_all-map p row es) ∙ k), λ k. list_all-map p row es ∙ h.1 k)

pub ids_within : {Y : Type 0} (s : NatSet) (n : FinMap nat_cmp Y) → IsTrue (list_all (λ q. table.contains_key n q) (set.items s)) ↔ IsWithin s n
ids_within s n = rows_tested (λ q. table.contains_key n q) (λ (e : ℕ × Unit {0}). e.0) (table.entries s) (IsWithin s n) (keys_within s n)

pub view_within : {Y : Type 0} (v : ViewMap) (n : FinMap nat_cmp Y)
    → IsTrue (list_all (λ (row : Row). table.contains_key n row.node) (views.rows_of v)) ↔ IsWithin v n
view_within v n = rows_tested (λ (row : Row). table.contains_key n row.node) views.row_of (table.entries v) (IsWithin v n) (keys_within v n)

-- ---- bounds

link_passes : (posts : ℕ) (l : Link) → IsTrue (is_link_within posts l) → IsLinkWithin posts l
link_passes posts l h =
    let a = and_parts _ _ h in
    let b = and_parts _ _ a.1 in
    (leb-true l.start posts a.0, leb-true l.acked (posts - l.start) b.0, leb-true l.heard counter_limit b.1)

link_passed : (posts : ℕ) (l : Link) → IsLinkWithin posts l → IsTrue (is_link_within posts l)
link_passed posts l h = and_from _ _ (le-leb l.start posts h.0) (and_from _ _ (le-leb l.acked (posts - l.start) h.1) (le-leb l.heard counter_limit h.2))

request_passes : (n : ℕ) → IsTrue (is_request_within n) → (0 < n) × (n ≤ counter_limit)
request_passes n h = let a = and_parts _ _ h in (ltb-true 0 n a.0, leb-true n counter_limit a.1)

request_passed : (n : ℕ) → (0 < n) × (n ≤ counter_limit) → IsTrue (is_request_within n)
request_passed n h = and_from _ _ (lt-ltb 0 n h.0) (le-leb n counter_limit h.1)

pub links_pass : (posts : ℕ) (ls : Links)
    → IsTrue (list_all (λ (row : LinkRow). is_link_within posts (link_of row)) (links.rows_of ls)) ↔ LinksWithin posts ls
links_pass posts ls =
    let pass = entries_pass (λ q l. is_link_within posts l) ls in
    rows_tested (λ (row : LinkRow). is_link_within posts (link_of row)) links.row_of (table.entries ls) (LinksWithin posts ls) (
      λ h q. IfSome_then (table.get ls q) {P = λ l. IsTrue (is_link_within posts l)} (pass.0 h q) (link_passes posts),
      λ h. pass.1 (λ q. IfSome_then (table.get ls q) {P = IsLinkWithin posts} (h q) (link_passed posts)),
    )

pub sessions_pass : (ss : Requests) → IsTrue (list_all (λ (row : SessionRow). is_request_within row.last) (sessions.rows_of ss)) ↔ SessionsWithin ss
sessions_pass ss =
    let pass = entries_pass (λ q last. is_request_within last) ss in
    rows_tested (λ (row : SessionRow). is_request_within row.last) sessions.row_of (table.entries ss) (SessionsWithin ss) (
      λ h s. IfSome_then (table.get ss s) {P = λ last. IsTrue (is_request_within last)} (pass.0 h s) request_passes,
      λ h. pass.1 (λ s. IfSome_then (table.get ss s) {P = λ last. (0 < last) × (last ≤ counter_limit)} (h s) request_passed),
    )

-- ---- kept answers, and asks that wait

-- kept answers are of sessions that have a request, and no ask that isn't answered
abbrev pub is_finished : Requests → List Asked → ℕ → Bool
is_finished ss asks q = table.contains_key ss q && not (has_session q asks)

pub answers_finished : (o : Outbox) (ss : Requests) (asks : List Asked)
    → IsTrue (list_all (λ (row : KeptAnswer). is_finished ss asks row.session) (kept.answers_of o)) ↔ KeepsAnswers ss asks o.answers
answers_finished o ss asks =
    let pass = entries_pass (λ q _. is_finished ss asks q) o.answers in
    rows_tested (λ (row : KeptAnswer). is_finished ss asks row.session) kept.row_of (table.entries o.answers) (KeepsAnswers ss asks o.answers) (
      λ h q there.
          let both = and_parts _ _ (at_some (table.get o.answers q) (IsTrue (is_finished ss asks q)) (pass.0 h q) there) in
          (both.0, not-true _ both.1),
      λ h. pass.1 (λ q. if_some (table.get o.answers q) (IsTrue (is_finished ss asks q))
          (λ there. and_from _ _ (h q there).0 (not_from_false _ (h q there).1))),
    )

last_passes : (o : Option ℕ) (r : ℕ) → IsTrue (option_map_or (λ last. last == r) o false) ↔ (o ≡ Some r)
last_passes None r = (λ h. cc, λ h. cc)
last_passes (Some last) r = (λ h. ap (λ (n : ℕ). Some n) (eqb-true last r h), λ h. eq-eqb last r (same_Some last r h))

pub asks_pass : (ss : Requests) (asks : List Asked) → IsTrue (list_all (is_last_of ss) asks) ↔ AllByRecursion (IsLastOf ss) asks
asks_pass ss [] = (λ h. tt, λ h. refl)
asks_pass ss (a ∷ asks) =
    let one = last_passes (table.get ss a.session) a.request in
    let others = asks_pass ss asks in (
      λ h. let both = and_parts _ _ h in (one.0 both.0, others.0 both.1),
      λ h. and_from _ _ (one.1 h.0) (others.1 h.1),
    )
