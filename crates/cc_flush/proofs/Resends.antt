-- What is put out again, piece by piece.
--     rows_resend                        a post on each row, as on each live link
--     HasPutPieces                       a loop has put pieces, and counted their outputs
--     pieces_none, pieces_more, pieces_all     so it is at its begin, behind one more of them, and at its end
--     next_post                          the next kept post, by its number
--     resends_stand, reply_stands, ack_stands       all that is put again stands in the node
--     standing_is_made                   and so it was made
use Rattle.std.proofs.Common.{◌≡◌, ℕ, zero, suc, ◌+◌, ◌-◌, ◌<◌, ◌≤◌, Bool, true, false, cond, not, List, [], ◌∷◌, ◌++◌, map, length, get_or}
use Rattle.std.proofs.Common.{drop, add-one, Some, None, refl, sym, ap, subst, ◌∙◌, arith, length-append}
use Rattle.std.specs.Prelude.{Option, IfSome, nat_lt, if◌then◌else◌}
use Rattle.std.specs.Option.{option_map_or}
use Rattle.std.specs.List.{flat_map, Contains, AllByRecursion}
use Rattle.std.specs.Ordering.{nat_cmp}
use Rattle.std.specs.FinMap as table
use Rattle.std.specs.FinMap.{FinMap}
use Rattle.std.specs.FinMap.Entries.{where_key}
use Rattle.std.proofs.lemmas.List.{at_drop_all}
use Rattle.std.proofs.lemmas.List.Elements.{All-append, All-contains, All-from_recursion, recursion_from_All}
use Rattle.std.proofs.lemmas.Bool.{and_parts, ltb-true}
use Rattle.cc_views.specs.MapLaws.{all_entries}
use Rattle.cc_views.specs.NatSets as set
use Rattle.cc_messages.specs.declared.answer.Answer.{Answer}
use Rattle.cc_messages.specs.declared.event.Event.{Event}
use Rattle.cc_messages.specs.declared.message.Message.{Message}
use Rattle.cc_messages.specs.declared.output.Output.{Output}
use Rattle.cc_messages.specs.declared.output.Output.TheVariants as output
use Rattle.cc_site.specs.declared.site.Site.{Ghosts}
use Rattle.cc_site.specs.Runs.{OnlyNow}
use Rattle.cc_links.specs.declared.link_row.LinkRow.{LinkRow}
use Rattle.cc_links.specs.Links.{Link}
use Rattle.cc_links.specs.Rows.{row_of, rows_of}
use Rattle.cc_outbox.specs.OutboxLaws.{KeepsPosts}
use Rattle.cc_outbox.specs.Rows.{numbered}
use Rattle.cc_node.specs.Core.{Core, live_links}
use Rattle.cc_node.specs.Lawful.{IsLawfulNode}
use Rattle.cc_node.specs.Node.{Node, after, IsLawful, HasOutput, MayBeOut}
use Rattle.cc_node.proofs.StandingLaws.{standing_made}
use Rattle.cc_node_state.proofs.NodeStates.{entries_numbered, post_at, length-values}
use Rattle.cc_flush.specs.Resends.{waits_for, resend_on, resend_row, resend_post, resends, reply_of, reply_again, ack_again}
use Rattle.cc_journal.specs.Outlet.{Puts}
use Rattle.cc_journal.proofs.LinkSends.{entries_where}
use Rattle.cc_journal.proofs.Puts.{HasPut, put_none, put_more, put_all}

-- ---- on the rows of the links

resend_where : (c : Core) (post : ℕ × Message) (es : List (ℕ × Link))
    → flat_map (resend_on post) (where_key nat_cmp (λ q. not (set.contains c.churn.changes.left q)) es) ≡ flat_map (resend_row c post) (map row_of es)
resend_where c post [] = refl
resend_where c post (e ∷ es) =
    let kept = where_key nat_cmp (λ q. not (set.contains c.churn.changes.left q)) es in
    let rest = flat_map (resend_row c post) (map row_of es) in
    elim (set.contains c.churn.changes.left e.0) as (λ b. flat_map (resend_on post) (cond (not b) (e ∷ kept) kept) ≡ cond b [] (resend_on post e) ++ rest) [
      | true ↦ resend_where c post es
      | false ↦ ap (λ (l : List Output). resend_on post e ++ l) (resend_where c post es)
    ]

pub rows_resend : (c : Core) (post : ℕ × Message) (rows : List LinkRow) → rows ≡ rows_of c.links → flat_map (resend_row c post) rows ≡ resend_post c post
rows_resend c post rows is =
    ap (flat_map (resend_row c post)) is ∙ sym (resend_where c post (table.entries c.links))
    ∙ sym (ap (flat_map (resend_on post)) (entries_where (λ q. not (set.contains c.churn.changes.left q)) c.links))

-- ---- piece by piece

module _ {D X : Type 0} (s : Ghosts D) (f : X → List Output) (xs : List X) (old : D) where
  -- the pieces from the i-th on are left, and so many outputs have been put
  pub record HasPutPieces (now : D) (i count : ℕ) : Type 0 where
    pub put : HasPut s old now (flat_map f xs) (flat_map f (drop i xs))
    pub counted : count + length (flat_map f (drop i xs)) ≡ length (flat_map f xs)

  pub pieces_none : (s.honest old → OnlyNow s old) → HasPutPieces old 0 0
  pieces_none only = record { put = put_none s old (flat_map f xs) only; counted = omega arith }

  pub pieces_more : (now new : D) (i count n : ℕ) (x : X) → HasPutPieces now i count → drop i xs ≡ x ∷ drop (i + 1) xs → Puts s (f x) now new
      → n ≡ length (f x) → HasPutPieces new (i + 1) (count + n)
  pieces_more now new i count n x so_far next puts is =
      let rest = flat_map f (drop (i + 1) xs) in
      let split : flat_map f (drop i xs) ≡ f x ++ rest = ap (flat_map f) next in
      record {
        put = put_more s old now new (flat_map f xs) (flat_map f (drop i xs)) (f x) rest so_far.put split puts;
        counted = omega (arith, so_far.counted, is, ap length split, length-append (f x) rest);
      }

  pub pieces_all : (now : D) (i count : ℕ) (outputs : List Output) → HasPutPieces now i count → length xs ≤ i → flat_map f xs ≡ outputs
      → Puts s outputs old now × (count ≡ length outputs)
  pieces_all now i count outputs so_far past is =
      let none : flat_map f (drop i xs) ≡ [] = at_drop_all (flat_map f) xs i past in
      (put_all s old now (flat_map f xs) outputs (flat_map f (drop i xs)) so_far.put is none, omega (arith, so_far.counted, ap length none, ap length is))

-- ---- the kept posts

drop_numbered : (n i : ℕ) (ms : List Message) (m : Message) → i < length ms → m ≡ get_or ms i m
    → drop i (numbered n ms) ≡ (n + i + 1, m) ∷ drop (suc i) (numbered n ms)
drop_numbered n i [] m lt is = absurd (omega arith)
drop_numbered n zero (x ∷ ms) m lt is =
    let same : n + 1 ≡ n + 0 + 1 = omega arith in
    ap (λ (y : Message). (n + 1, y) ∷ numbered (n + 1) ms) (sym is) ∙ ap (λ (k : ℕ). (k, m) ∷ numbered (n + 1) ms) same
drop_numbered n (suc i) (x ∷ ms) m lt is =
    let same : n + 1 + i + 1 ≡ n + suc i + 1 = omega arith in
    drop_numbered (n + 1) i ms m (omega arith) is ∙ ap (λ (k : ℕ). (k, m) ∷ drop (suc i) (numbered (n + 1) ms)) same

pub next_post : (last count : ℕ) (kept : FinMap nat_cmp Message) → KeepsPosts (last - count) last kept → count ≡ table.len kept
    → (i number : ℕ) (m : Message) → number ≡ last - count + i + 1 → i < count → Some m ≡ table.get kept number
    → drop i (table.entries kept) ≡ (number, m) ∷ drop (i + 1) (table.entries kept)
next_post last count kept is few i number m at lt found =
    let place = post_at last count kept is few i number m at lt found in
    let values = table.values kept in
    let start = last - length values in
    let numbers : table.entries kept ≡ numbered start values = entries_numbered (last - count) last kept is in
    let same : start + i + 1 ≡ number = omega (arith, at, few, length-values kept) in
    ap (drop i) numbers ∙ drop_numbered start i values m place.0 place.1 ∙ ap (λ (k : ℕ). (k, m) ∷ drop (suc i) (numbered start values)) same
    ∙ ap (λ (k : ℕ). (number, m) ∷ drop k (numbered start values)) (sym (add-one i))
    ∙ ap (λ (es : List (ℕ × Message)). (number, m) ∷ drop (i + 1) es) (sym numbers)

-- ---- all of it stands

all_pieces : {X : Type 0} (P : Output → Type 0) (f : X → List Output) (xs : List X) → AllByRecursion (λ x. AllByRecursion P (f x)) xs
    → AllByRecursion P (flat_map f xs)
all_pieces P f [] each = tt
all_pieces P f (x ∷ xs) each =
    let rest = flat_map f xs in
    recursion_from_All P (f x ++ rest) (All-append P (f x) rest (All-from_recursion P (f x) each.0) (All-from_recursion P rest (all_pieces P f xs each.1)))

where_some : {X : Type 0} (P : X → Type 0) (o : Option X) → ((x : X) → o ≡ Some x → P x) → IfSome o P
where_some P None each = tt
where_some P (Some x) each = each x refl

each_entry : {X : Type 0} (P : ℕ → X → Type 0) (m : FinMap nat_cmp X) → ((q : ℕ) (x : X) → table.get m q ≡ Some x → P q x)
    → AllByRecursion (λ e. P e.0 e.1) (table.entries m)
each_entry P m each =
    all_entries P (table.entries m) (table.entries_sorted m)
    (λ q. subst (λ o. IfSome o (P q)) (table.get-entries m q) (where_some (P q) (table.get m q) (each q)))

module _ (n : Node) where
  abbrev AllStand : List Output → Type 0
  AllStand outputs = AllByRecursion (HasOutput n) outputs

  send_stands : (number : ℕ) (m : Message) (to : ℕ) (l : Link) → table.get n.outbox.posts number ≡ Some m → table.get (live_links n.core) to ≡ Some l
      → (b : Bool) → waits_for number l ≡ b → AllStand (if b then output.Send to (number - l.start) m ∷ [] else [])
  send_stands number m to l kept live true waits =
      let both = and_parts (nat_lt l.start number) (nat_lt l.acked (number - l.start)) waits in
      ((number, l, kept, live, record { above = ltb-true l.start number both.0; unacked = ltb-true l.acked (number - l.start) both.1; is_number = refl }), tt)
  send_stands number m to l kept live false waits = tt

  post_stands : (number : ℕ) (m : Message) → table.get n.outbox.posts number ≡ Some m → AllStand (resend_post n.core (number, m))
  post_stands number m kept =
      all_pieces (HasOutput n) (resend_on (number, m)) (table.entries (live_links n.core))
      (each_entry (λ to l. AllStand (resend_on (number, m) (to, l))) (live_links n.core)
      (λ to l live. send_stands number m to l kept live (waits_for number l) refl))

  pub resends_stand : AllByRecursion (HasOutput n) (resends n)
  resends_stand =
      all_pieces (HasOutput n) (resend_post n.core) (table.entries n.outbox.posts)
      (each_entry (λ number m. AllStand (resend_post n.core (number, m))) n.outbox.posts post_stands)

  reply_stands_of : (session : ℕ) (r : Option ℕ) (a : Option Answer) → table.get n.core.sessions session ≡ r → table.get n.outbox.answers session ≡ a
      → AllStand (reply_of session r a)
  reply_stands_of session None a last kept = tt
  reply_stands_of session (Some r) None last kept = tt
  reply_stands_of session (Some r) (Some a) last kept = ((kept, last), tt)

  pub reply_stands : (session : ℕ) → AllByRecursion (HasOutput n) (reply_again session n)
  reply_stands session = reply_stands_of session (table.get n.core.sessions session) (table.get n.outbox.answers session) refl refl

  heard_stands : (peer : ℕ) (l : Link) → table.get n.core.links peer ≡ Some l → (b : Bool) → nat_lt 0 l.heard ≡ b
      → AllStand (if b then output.Ack peer l.heard ∷ [] else [])
  heard_stands peer l row true some = ((l, row, refl, ltb-true 0 l.heard some), tt)
  heard_stands peer l row false some = tt

  ack_stands_of : (peer : ℕ) (o : Option Link) → table.get n.core.links peer ≡ o
      → AllStand (if nat_lt 0 (option_map_or (λ (l : Link). l.heard) o 0) then output.Ack peer (option_map_or (λ (l : Link). l.heard) o 0) ∷ [] else [])
  ack_stands_of peer None row = tt
  ack_stands_of peer (Some l) row = heard_stands peer l row (nat_lt 0 l.heard) refl

  pub ack_stands : (peer : ℕ) → AllByRecursion (HasOutput n) (ack_again peer n)
  ack_stands peer = ack_stands_of peer (table.get n.core.links peer) refl

-- what stands after lawful events was made by them
pub standing_is_made : (start node : Node) (events : List Event) (again : List Output) → IsLawfulNode start → IsLawful start events
    → node ≡ after start events → AllByRecursion (HasOutput node) again
    → (output : Output) → Contains again output → MayBeOut start events output
standing_is_made start node events again sound lawful is stand output has =
    standing_made start events output sound lawful
    (subst (λ (n : Node). HasOutput n output) is (All-contains (HasOutput node) again output (All-from_recursion (HasOutput node) again stand) has))
