-- How long the spelling of a node's state is at most.
use Rattle.std.proofs.Common.{ℕ, ◌+◌, ◌*◌, ◌<◌, ◌≤◌, ◌^◌, List, ◌++◌, length, arith, ap}
use Rattle.std.specs.Int.{w64, to_be_bytes}
use Rattle.std.specs.List.{AllByRecursion}
use Rattle.std.specs.Ordering.{nat_cmp}
use Rattle.std.specs.FinMap as table
use Rattle.std.specs.FinMap.{FinMap}
use Rattle.std.proofs.lemmas.List.{length-append}
use Rattle.cc_views.specs.declared.value.Value.{Value}
use Rattle.cc_wire.specs.Spellings.{value_spelling, IsValue, view_spelling}
use Rattle.cc_wire.specs.Messages.{message_spelling, IsMessage}
use Rattle.cc_wire.specs.Events.{asked_spelling}
use Rattle.cc_messages.specs.declared.answer.Answer.{Answer}
use Rattle.cc_messages.specs.declared.message.Message.{Message}
use Rattle.cc_wire.proofs.Lengths.{length-pieces, length-value, length-view, length-changes, length-message, length-answer, length-asked}
use Rattle.cc_links.specs.Links.{Link}
use Rattle.cc_ops.specs.declared.pending_operation.Asked.{Asked}
use Rattle.cc_ops.specs.declared.pending_operation.Pending.{Pending}
use Rattle.cc_ops.specs.Ops.{Phase, Idle, Storing, Querying, StoringBack}
use Rattle.cc_node.specs.Node.{Node}
use Rattle.cc_node_state.specs.declared.layout.Layout.{Layout}
use Rattle.cc_node_state.specs.declared.layout.Layout.TheVariants.{Plain, Lined, Shared}
use Rattle.cc_node_state.specs.States.{Membership, Work, Tables, membership_spelling, IsMembership, counts_spelling, pending_spelling, IsPending}
use Rattle.cc_node_state.specs.States.{phase_spelling, IsPhase, ask_spelling, IsAsk, asks_spelling, AreAsks, line_spelling, IsLineOf, others_spelling, AreOthersOf}
use Rattle.cc_node_state.specs.States.{round_spelling, stored_spelling, entering_spelling, work_spelling, IsWork, table_spelling, IsTableOf}
use Rattle.cc_node_state.specs.States.{link_spelling, IsLink, session_spelling, IsSession}
use Rattle.cc_node_state.specs.States.{kept_answer_spelling, IsKeptAnswer, kept_spelling, IsKeptPosts, tables_spelling, IsTables, SpellsNode, state_of}
use Rattle.cc_node_state.proofs.LawfulFields.{answers_within}

pub length-membership : (m : Membership) → IsMembership m → length (membership_spelling m) ≤ 3098
length-membership m is = omega (arith, length-changes m.changes is.changes)

length-pending : (p : Pending) → IsPending p → length (pending_spelling p) ≤ 86
length-pending p is =
    let asked = length-append (asked_spelling p.asked.session p.asked.request p.asked.command) (counts_spelling p.need p.count) in
    omega (arith, asked, length-asked p.asked.session p.asked.request p.asked.command is.asked)

-- with a view that is stored back it is the longest
pub length-phase : (phase : Phase) → IsPhase phase → length (phase_spelling phase) ≤ 55129
length-phase Idle is = omega arith
length-phase (Storing p) is = omega (arith, length-pending p is)
length-phase (Querying p) is = omega (arith, length-pending p is)
length-phase (StoringBack p seen) is = omega (arith, length-append (pending_spelling p) (view_spelling seen), length-pending p is.0, length-view seen is.1)

length-ask : (a : Asked) → IsAsk a → length (ask_spelling a) ≤ 82
length-ask a is = length-asked a.session a.request a.command is

length-asks : (asks : List Asked) → AreAsks asks → length (asks_spelling asks) ≤ 1 + 82 * length asks
length-asks asks are = omega (arith, length-pieces IsAsk ask_spelling 82 length-ask asks are.each)

pub length-line : (layout : Layout) (line : List Asked) → IsLineOf layout line → length (line_spelling layout line) ≤ 2625
length-line Plain line is = omega arith
length-line Lined line is = omega (arith, length-asks line is, is.fits)
length-line Shared line is = omega (arith, length-asks line is, is.fits)

-- the share, and the others of the pending round
length-others : (layout : Layout) (share : ℕ) (others : List Asked) → AreOthersOf layout share others
    → length (others_spelling layout share others) ≤ 2 + 82 * length others
length-others Plain share others are = omega arith
length-others Lined share others are = omega arith
length-others Shared share others are = omega (arith, length-asks others are.1)

few_others : (layout : Layout) (share : ℕ) (others : List Asked) → AreOthersOf layout share others → length others ≤ 32
few_others Plain share others are = omega (arith, ap length are.1)
few_others Lined share others are = omega (arith, ap length are.1)
few_others Shared share others are = are.1.fits

abbrev pub AreRound : Layout → Phase × ((ℕ × List Asked) × List Asked) → Type 0
AreRound layout r = IsPhase r.0 × (AreOthersOf layout r.1.0.0 r.1.0.1 × IsLineOf layout r.1.1)

length-asked_beside : (layout : Layout) (r : Phase × ((ℕ × List Asked) × List Asked)) → AreRound layout r
    → length (round_spelling layout r.0 r.1.0.0 r.1.0.1 r.1.1) ≤ 57756 + 82 * length r.1.0.1
length-asked_beside layout (phase, ((share, others), line)) is =
    omega (arith, length-append {A = ℕ}, length-phase phase is.0, length-others layout share others is.1.0, length-line layout line is.1.1)

pub length-round : (layout : Layout) (r : Phase × ((ℕ × List Asked) × List Asked)) → AreRound layout r
    → length (round_spelling layout r.0 r.1.0.0 r.1.0.1 r.1.1) ≤ 60380
length-round layout r is = omega (arith, length-asked_beside layout r is, few_others layout r.1.0.0 r.1.0.1 is.1.0)

-- a lawful node has fewer others than its share
length-work : (layout : Layout) (w : Work) → IsWork layout w → length w.others ≤ 31 → length (work_spelling layout w) ≤ 115569
length-work layout w is few =
    let round = length-asked_beside layout (w.phase, ((w.share, w.others), w.line)) (is.phase, (is.others, is.line)) in
    let behind = entering_spelling w.echoes w.need ++ round_spelling layout w.phase w.share w.others w.line in
    let stored = length-append (stored_spelling w.view w.number w.mine w.tag) behind in
    let view = length-append (view_spelling w.view) (to_be_bytes w64 w.number ++ (value_spelling w.mine ++ to_be_bytes w64 w.tag)) in
    let value = length-append (value_spelling w.mine) (to_be_bytes w64 w.tag) in
    omega (arith, stored, view, value, length-view w.view is.view, length-value w.mine is.mine, round, few)

pub length-link : (e : ℕ × Link) → IsLink e → length (link_spelling e) ≤ 28
length-link e is = omega arith

length-session : (e : ℕ × ℕ) → IsSession e → length (session_spelling e) ≤ 16
length-session e is = omega arith

pub length-kept_answer : (e : ℕ × Answer) → IsKeptAnswer e → length (kept_answer_spelling e) ≤ 55051
length-kept_answer e is = omega (arith, length-answer e.1 is.answer)

-- the own value under its number, and the tag
pub length-own : (own : ℕ × (Value × ℕ)) → (own.0 < 2 ^ 64) × (IsValue own.1.0 × (own.1.1 < 2 ^ 64))
    → length (to_be_bytes w64 own.0 ++ (value_spelling own.1.0 ++ to_be_bytes w64 own.1.1)) ≤ 219
length-own own is = omega (arith, length-append (value_spelling own.1.0) (to_be_bytes w64 own.1.1), length-value own.1.0 is.1.0)

-- a count and the rows
length-table : {X : Type 0} (Is : ℕ × X → Type 0) (f : ℕ × X → List ℕ) (most : ℕ) → ((e : ℕ × X) → Is e → length (f e) ≤ most)
    → (m : FinMap nat_cmp X) → AllByRecursion Is (table.entries m) → length (table_spelling f m) ≤ 2 + most * table.len m
length-table Is f most each m all = omega (arith, length-pieces Is f most each (table.entries m) all, ap (λ (n : ℕ). most * n) (table.len-entries m))

length-kept : (posts : List Message) → IsKeptPosts posts → length (kept_spelling posts) ≤ 29760514
length-kept posts is = omega (arith, length-pieces IsMessage message_spelling 58126 length-message posts is.each, is.fits)

length-tables : (t : Tables) → IsTables t → table.len t.links ≤ 256 → table.len t.answers ≤ 256 → length (tables_spelling t) ≤ 43864848
length-tables t is links answers =
    let kept = kept_spelling t.kept ++ table_spelling kept_answer_spelling t.answers in
    omega (
      arith,
      length-append (table_spelling link_spelling t.links) (table_spelling session_spelling t.sessions ++ kept),
      length-append (table_spelling session_spelling t.sessions) kept,
      length-append (kept_spelling t.kept) (table_spelling kept_answer_spelling t.answers),
      length-table IsLink link_spelling 28 length-link t.links is.links.rows,
      length-table IsSession session_spelling 16 length-session t.sessions is.sessions.rows,
      length-kept t.kept is.kept,
      length-table IsKeptAnswer kept_answer_spelling 55051 length-kept_answer t.answers is.answers.rows,
      links,
      is.sessions.fits,
      answers,
    )

pub length-sessions : (m : FinMap nat_cmp ℕ) → IsTableOf IsSession 256 m → length (table_spelling session_spelling m) ≤ 4098
length-sessions m is = omega (arith, length-table IsSession session_spelling 16 length-session m is.rows, is.fits)

pub length-node : (layout : Layout) (bytes : List ℕ) (n : Node) → SpellsNode layout bytes n → length bytes ≤ 43983515
length-node layout bytes n is =
    let s = state_of n in
    let fits = is.state.fits in
    let round = is.lawful.core.line.round in
    let few : length n.core.ops.others ≤ 31 = omega (arith, round.few, round.most) in
    omega (
      arith,
      ap length is.state.spelled,
      length-append (membership_spelling s.membership) (work_spelling layout s.work ++ tables_spelling s.tables),
      length-append (work_spelling layout s.work) (tables_spelling s.tables),
      length-membership s.membership fits.membership,
      length-work layout s.work fits.work few,
      length-tables s.tables fits.tables is.lawful.core.link_count (answers_within n is.lawful),
    )

pub ruleset longest = (length-node)
