-- The nodes that a message names, one field after the other, from the last to the first.
--     nodes_of-rows_of             the nodes of a view's rows
--     named_links, named_room      links for all of them, and that there is room on the way
--     marks_too_many, marks_then   known ids with these and with more of them
--     echo_ids, too_many           all that an EnterEcho names; whether the known ids and these are too many
--     has_link, one_too_many       whether one node has a link; whether it and the known ones are too many
use Rattle.std.proofs.Common.{◌≡◌, ℕ, ◌+◌, ◌≤◌, Bool, true, false, cond, not, nat_lt, List, [], ◌∷◌, ◌++◌, map, refl, sym, ap, ◌∙◌, inl, inr, arith}
use Rattle.std.specs.Prelude.{◌↔◌, ◌==◌, ◌&&◌, Option, Some, None, IsTrue, is_some, option_map}
use Rattle.std.specs.Cmp.{nat_cmp_total}
use Rattle.std.specs.FinMap as table
use Rattle.std.proofs.lemmas.Bool.{false≢true, le-ltb, lt-ltb}
use Rattle.std.proofs.lemmas.Bool.Decides.{eqb_tells}
use Rattle.std.proofs.lemmas.List.{append_assoc}
use Rattle.cc_views.specs.NatSets as set
use Rattle.cc_views.specs.NatSets.{NatSet, insert_all-append}
use Rattle.cc_views.specs.Rows.{Pair, ViewMap, rows_of, row_of}
use Rattle.cc_changes.specs.ChangeSets.{ChangeSets}
use Rattle.cc_links.specs.Links.{Link, Links, new_link, add_absent, add_all}
use Rattle.cc_links.specs.LinkLaws.{add_all-append, len_add_all}
use Rattle.cc_links.specs.KnownIds.{len-add_all}
use Rattle.cc_links.specs.Rows.{nodes_of}
use Rattle.cc_links.proofs.KnownSets.{len_insert_all}
use Rattle.cc_messages.specs.declared.message.Message.{Message}
use Rattle.cc_messages.specs.declared.message.Message.TheVariants as message
use Rattle.cc_node.specs.declared.named_nodes.Named.{Named}
use Rattle.cc_node.specs.Core.{ids_of}
use Rattle.cc_node.specs.Known.{Marks}

nodes_of_entries : (es : List (ℕ × Pair)) → nodes_of (map row_of es) ≡ map (λ e. e.0) es
nodes_of_entries [] = refl
nodes_of_entries (e ∷ es) = ap (λ (qs : List ℕ). e.0 ∷ qs) (nodes_of_entries es)

pub nodes_of-rows_of : (v : ViewMap) → nodes_of (rows_of v) ≡ table.keys v
nodes_of-rows_of v = nodes_of_entries (table.entries v)

-- ---- links

module _ (posts : ℕ) (ls : Links) (n : Named) where
  abbrev after_rows : Links
  after_rows = add_all posts (nodes_of n.rows.now) ls

  abbrev after_left : Links
  after_left = add_all posts n.left.now after_rows

  abbrev after_joined : Links
  after_joined = add_all posts n.joined.now after_left

  abbrev after_entered : Links
  after_entered = add_all posts n.entered.now after_joined

  abbrev named : List ℕ
  named = n.node.now ++ (n.entered.now ++ (n.joined.now ++ (n.left.now ++ nodes_of n.rows.now)))

  pub named_links : (ids : List ℕ) → ids ≡ named → add_all posts n.node.now after_entered ≡ add_all posts ids ls
  named_links ids is =
      let left = add_all-append posts n.left.now (nodes_of n.rows.now) ls in
      let joined = add_all-append posts n.joined.now (n.left.now ++ nodes_of n.rows.now) ls ∙ ap (add_all posts n.joined.now) left in
      let entered = add_all-append posts n.entered.now (n.joined.now ++ (n.left.now ++ nodes_of n.rows.now)) ls ∙ ap (add_all posts n.entered.now) joined in
      let node = add_all-append posts n.node.now (n.entered.now ++ (n.joined.now ++ (n.left.now ++ nodes_of n.rows.now))) ls in
      sym (ap (λ qs. add_all posts qs ls) is ∙ node ∙ ap (add_all posts n.node.now) entered)

  pub record NamedRoom : Type 0 where
    pub rows : table.len after_rows ≤ 256
    pub left : table.len after_left ≤ 256
    pub joined : table.len after_joined ≤ 256
    pub entered : table.len after_entered ≤ 256
    pub node : table.len (add_all posts n.node.now after_entered) ≤ 256

  pub named_room : (ids : List ℕ) → ids ≡ named → table.len (add_all posts ids ls) ≤ 256 → NamedRoom
  named_room ids is h =
      let same = ap table.len (named_links ids is) in
      let a = len_add_all posts n.left.now after_rows in
      let b = len_add_all posts n.joined.now after_left in
      let d = len_add_all posts n.entered.now after_joined in
      let e = len_add_all posts n.node.now after_entered in
      record {
        rows = omega (arith, same, a, b, d, e, h);
        left = omega (arith, same, b, d, e, h);
        joined = omega (arith, same, d, e, h);
        entered = omega (arith, same, e, h);
        node = omega (arith, same, h);
      }

-- ---- known ids

-- where the first ids don't fit, neither do these and others
pub marks_too_many : (s t : NatSet) (xs ys : List ℕ) (b : Bool) → b ≡ false → Marks s xs b t → Marks s (ys ++ xs) false t
marks_too_many s t xs ys b e h = record {
  fits = (λ k. absurd cc, λ k. sym e ∙ h.fits.1 (omega (arith, len_insert_all (set.insert_all s xs) ys, ap set.len (insert_all-append s ys xs), k)));
  added = λ k. absurd cc;
}

-- where they fit, the others count
pub marks_then : (s t u : NatSet) (xs ys : List ℕ) (b d : Bool) → b ≡ true → Marks s xs b t → Marks t ys d u → Marks s (ys ++ xs) d u
marks_then s t u xs ys b d e h k =
    let same : set.insert_all s (ys ++ xs) ≡ set.insert_all t ys = insert_all-append s ys xs ∙ ap (λ r. set.insert_all r ys) (sym (h.added e)) in
    record {
      fits = (λ f. omega (arith, k.fits.0 f, ap set.len same), λ f. k.fits.1 (omega (arith, f, ap set.len same)));
      added = λ f. k.added f ∙ sym same;
    }

-- what a snapshot names, bracketed from the last to the first
pub snapshot_ids : (c : ChangeSets) (v : ViewMap)
    → set.items c.entered ++ (set.items c.joined ++ (set.items c.left ++ table.keys v)) ≡ ids_of (message.Snapshot c v)
snapshot_ids c v =
    let e = set.items c.entered in
    let k = set.items c.joined in
    let l = set.items c.left in
    sym (append_assoc (e ++ k) l (table.keys v) ∙ append_assoc e k (l ++ table.keys v))

-- and what an EnterEcho names
pub echo_ids : (c : ChangeSets) (v : ViewMap) (j : Bool) (q : ℕ)
    → (q ∷ []) ++ (set.items c.entered ++ (set.items c.joined ++ (set.items c.left ++ table.keys v))) ≡ ids_of (message.EnterEcho c v j q)
echo_ids c v j q = ap (λ qs. q ∷ qs) (snapshot_ids c v)

fits_or_not : (n : ℕ) (b : Bool) → IsTrue b ↔ (n ≤ 256) → not b ≡ nat_lt 256 n
fits_or_not n true h = let le : n ≤ 256 = h.0 refl in sym (le-ltb 256 n le)
fits_or_not n false h = let apart : n ≤ 256 → ⊥ = λ k. false≢true (h.1 k) in sym (lt-ltb 256 n (omega (arith, apart)))

-- whether the links of the known ids, of the sender and of those that a message names are too many
pub too_many : (posts from : ℕ) (m : Message) (ls : Links) (b : Bool) (t : NatSet) → Marks set.empty ((from ∷ []) ++ (ids_of m ++ table.keys ls)) b t
    → not b ≡ nat_lt 256 (table.len (add_all posts (from ∷ ids_of m) ls))
too_many posts from m ls b t h =
    let same : set.len (set.insert_all set.empty ((from ∷ []) ++ (ids_of m ++ table.keys ls))) ≡ table.len (add_all posts (from ∷ ids_of m) ls) =
    ap set.len (insert_all-append set.empty (from ∷ ids_of m) (table.keys ls)) ∙ sym (len-add_all posts (from ∷ ids_of m) ls) in
    fits_or_not (table.len (add_all posts (from ∷ ids_of m) ls)) b (λ k. omega (arith, same, h.fits.0 k), λ k. h.fits.1 (omega (arith, same, k)))

-- ---- one node

pub has_link : {X : Type 0} (f : X → Link) (row : Option X) (o : Option Link) → option_map f row ≡ o → is_some o ≡ is_some row
has_link f None o e = ap is_some (sym e)
has_link f (Some x) o e = ap is_some (sym e)

full : (n : ℕ) → n ≤ 256 → nat_lt 256 (n + 1) ≡ (n == 256)
full n few =
    elim (eqb_tells n 256) as (λ _. nat_lt 256 (n + 1) ≡ (n == 256)) [
      | inl t ↦ lt-ltb 256 (n + 1) (omega (arith, t.1)) ∙ sym t.0
      | inr t ↦ le-ltb 256 (n + 1) (omega (arith, few, t.1)) ∙ sym t.0
    ]

-- a node is one too many where it has no link, and there are as many as may be
pub one_too_many : (posts q : ℕ) (ls : Links) (o : Option Link) → table.get ls q ≡ o → table.len ls ≤ 256
    → nat_lt 256 (table.len (add_absent posts q o ls)) ≡ (not (is_some o) && (table.len ls == 256))
one_too_many posts q ls (Some l) e few = le-ltb 256 (table.len ls) few
one_too_many posts q ls None e few =
    let n = table.len ls in
    ap (nat_lt 256) (table.len-insert nat_cmp_total ls q (new_link posts) ∙ ap (λ b. cond b n (n + 1)) (ap is_some e)) ∙ full n few
