-- The node of a state, and the state of a node.
use Rattle.std.proofs.Common.{◌≡◌, ℕ, ◌+◌, ◌-◌, ◌<◌, ◌≤◌, true, List, [], ◌∷◌, ◌++◌, length, map, get_or, Some, None, refl, sym, ap, subst, ◌∙◌, arith}
use Rattle.std.specs.Prelude.{Option, IfSome, IsTrue, is_some}
use Rattle.std.specs.List.{AllByRecursion}
use Rattle.std.specs.Ordering.{nat_cmp}
use Rattle.std.specs.FinMap as table
use Rattle.std.specs.FinMap.{FinMap, is_sorted}
use Rattle.std.specs.FinMap.Entries.{below_all, find}
use Rattle.std.proofs.lemmas.List.{length-map}
use Rattle.std.proofs.lemmas.Option.{same_Some}
use Rattle.cc_views.specs.Entries.{lt_from_cmp, and_left, and_right, from_T, entries_back}
use Rattle.cc_views.specs.MapLaws.{all_entries}
use Rattle.cc_messages.specs.declared.message.Message.{Message}
use Rattle.cc_outbox.specs.OutboxLaws.{KeepsPosts}
use Rattle.cc_outbox.specs.Rows.{numbered}
use Rattle.cc_outbox.proofs.Numbers.{sorted_numbered, find_numbered}
use Rattle.cc_node.specs.Core.{lowest}
use Rattle.cc_node.specs.Node.{Node}
use Rattle.cc_node.specs.Lawful.{IsLawfulNode}
use Rattle.cc_node_state.specs.declared.layout.Layout.{Layout}
use Rattle.cc_node_state.specs.States.{State, SpellsState, SpellsNode, numbered_to, node_of, state_of}
use Rattle.cc_wire.proofs.Items.{all_weaker}
use Rattle.cc_wire.proofs.Whole.{one_spelling}
use Rattle.cc_node_state.proofs.StateFormat.{entries_again, state_spelled}

-- ---- posts without a gap

abbrev IsBetween : {X : Type 0} → ℕ → ℕ → ℕ × X → Type 0
IsBetween low high e = (low < e.0) × (e.0 ≤ high)

above_first : {X : Type 0} (k low high : ℕ) (es : List (ℕ × X)) → below_all nat_cmp k es ≡ true
    → AllByRecursion (IsBetween low high) es → AllByRecursion (IsBetween k high) es
above_first k low high [] below all = tt
above_first k low high (e ∷ es) below all = ((lt_from_cmp k e.0 (and_left _ _ below), all.0.1), above_first k low high es (and_right _ _ below) all.1)

-- keys in order above low and up to high are at most high - low
count_between : {X : Type 0} (low high : ℕ) (es : List (ℕ × X)) → is_sorted nat_cmp es ≡ true → AllByRecursion (IsBetween low high) es → length es ≤ high - low
count_between low high [] sorted all = omega arith
count_between low high (e ∷ es) sorted all =
    let rest : length es ≤ high - e.0 = count_between e.0 high es (and_right _ _ sorted) (above_first e.0 low high es (and_left _ _ sorted) all.1) in
    omega (arith, rest, all.0.0, all.0.1)

-- and where there are as many, none is left out
consecutive : (low high : ℕ) (es : List (ℕ × Message)) → is_sorted nat_cmp es ≡ true → AllByRecursion (IsBetween low high) es
    → length es ≡ high - low → es ≡ numbered low (map (λ e. e.1) es)
consecutive low high [] sorted all count = refl
consecutive low high (e ∷ es) sorted all count =
    let later : AllByRecursion (IsBetween e.0 high) es = above_first e.0 low high es (and_left _ _ sorted) all.1 in
    let most : length es ≤ high - e.0 = count_between e.0 high es (and_right _ _ sorted) later in
    let first : e.0 ≡ low + 1 = omega (arith, most, all.0.0, all.0.1, count) in
    let rest : es ≡ numbered e.0 (map (λ e. e.1) es) = consecutive e.0 high es (and_right _ _ sorted) later (omega (arith, most, all.0.1, count)) in
    ap (λ (t : List (ℕ × Message)). e ∷ t) rest ∙ ap (λ (n : ℕ). (n, e.1) ∷ numbered n (map (λ e. e.1) es)) first

from_some : {X : Type 0} (P : Type 0) (o : Option X) → (IsTrue (is_some o) → P) → IfSome o (λ _. P)
from_some P None h = tt
from_some P (Some x) h = h refl

pub length-values : {X : Type 0} (m : FinMap nat_cmp X) → length (table.values m) ≡ table.len m
length-values m = length-map (table.entries m) (λ e. e.1) ∙ sym (table.len-entries m)

-- kept posts are numbered without a gap, up to the last one
pub entries_numbered : (low posts : ℕ) (kept : FinMap nat_cmp Message) → KeepsPosts low posts kept
    → table.entries kept ≡ numbered (posts - length (table.values kept)) (table.values kept)
entries_numbered low posts kept is =
    let es = table.entries kept in
    let sorted = from_T _ (table.entries_sorted kept) in
    let within : AllByRecursion (IsBetween low posts) es =
    all_entries (λ q _. (low < q) × (q ≤ posts)) es (table.entries_sorted kept) (λ q.
    subst (λ o. IfSome o (λ _. (low < q) × (q ≤ posts))) (table.get-entries kept q) (from_some _ (table.get kept q) (λ h. is.within q h))) in
    let many : length (table.values kept) ≡ posts - low = length-values kept ∙ is.count in
    let start = posts - length (table.values kept) in
    let raised = all_weaker (IsBetween low posts) (IsBetween start posts) es (λ e h. (omega (arith, many, h.0, h.1), h.1)) within in
    consecutive start posts es sorted raised (omega (arith, many, length-map es (λ (e : ℕ × Message). e.1)))

pub kept_numbered : (low posts : ℕ) (kept : FinMap nat_cmp Message) → KeepsPosts low posts kept → numbered_to posts (table.values kept) ≡ kept
kept_numbered low posts kept is = ap (λ (es : List (ℕ × Message)). table.from_entries es) (sym (entries_numbered low posts kept is)) ∙ entries_again kept

messages_numbered : (n : ℕ) (ms : List Message) → map (λ e. e.1) (numbered n ms) ≡ ms
messages_numbered n [] = refl
messages_numbered n (m ∷ ms) = ap (λ (t : List Message). m ∷ t) (messages_numbered (n + 1) ms)

pub values-numbered_to : (posts : ℕ) (kept : List Message) → table.values (numbered_to posts kept) ≡ kept
values-numbered_to posts kept =
    let start = posts - length kept in
    ap (map (λ (e : ℕ × Message). e.1)) (entries_back (numbered start kept) (sorted_numbered start kept)) ∙ messages_numbered start kept

-- ---- back and forth

pub state_of-node_of : (s : State) → state_of (node_of s) ≡ s
state_of-node_of s =
    ap (λ (kept : List Message). record s { tables = record s.tables { kept = kept } }) (values-numbered_to s.tables.posts s.tables.kept)

pub node_of-state_of : (n : Node) → IsLawfulNode n → node_of (state_of n) ≡ n
node_of-state_of n is =
    let again = numbered_to n.core.posts (table.values n.outbox.posts) in
    ap (λ (last : ℕ). record n { outbox = record { last = last; posts = again; answers = n.outbox.answers } }) (sym is.last)
    ∙ ap (λ (posts : FinMap nat_cmp Message). record n { outbox = record n.outbox { posts = posts } })
    (kept_numbered (lowest n.core) n.core.posts n.outbox.posts is.posts)

-- ---- one spelling

pub one_spelling_of_state : (layout : Layout) (a b u w : List ℕ) (x y : State) → SpellsState layout a x → SpellsState layout b y
    → a ++ u ≡ b ++ w → (x ≡ y) × (a ≡ b)
one_spelling_of_state layout a b u w x y p q e = one_spelling (state_spelled layout) a b u w x y p.fits q.fits p.spelled q.spelled e

pub one_spelling_of_node : (layout : Layout) (a b u w : List ℕ) (x y : Node) → SpellsNode layout a x → SpellsNode layout b y
    → a ++ u ≡ b ++ w → (x ≡ y) × (a ≡ b)
one_spelling_of_node layout a b u w x y p q e =
    let one = one_spelling_of_state layout a b u w (state_of x) (state_of y) p.state q.state e in
    (sym (node_of-state_of x p.lawful) ∙ ap node_of one.0 ∙ node_of-state_of y q.lawful, one.1)

-- ---- kept posts in turn

-- the i-th of the kept posts, by its number
pub post_at : (last count : ℕ) (kept : FinMap nat_cmp Message) → KeepsPosts (last - count) last kept → count ≡ table.len kept
    → (i number : ℕ) (m : Message) → number ≡ last - count + i + 1 → i < count → Some m ≡ table.get kept number
    → (i < length (table.values kept)) × (m ≡ get_or (table.values kept) i m)
post_at last count kept is few i number m at lt found =
    let many = length-values kept in
    let inside : i < length (table.values kept) = omega (arith, many, few, lt) in
    let start = last - length (table.values kept) in
    let place : number ≡ start + i + 1 = omega (arith, many, few, at) in
    let read : table.get kept number ≡ find nat_cmp number (numbered start (table.values kept)) =
    table.get-entries kept number ∙ ap (find nat_cmp number) (entries_numbered (last - count) last kept is) in
    (inside, same_Some m (get_or (table.values kept) i m) (found ∙ read ∙ find_numbered start (table.values kept) i number m inside place))
