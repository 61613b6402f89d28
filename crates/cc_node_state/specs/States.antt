-- The bytes of a node's state: its fields in order, and which bytes spell a node.
--     State                            the fields, in three parts: Membership, Work and Tables
--     state_spelling, IsState          the one spelling of a state, and which states have one
--     SpellsState layout bytes s       the bytes spell the state in this layout
--     state_at                         reading a state
--     node_of s, state_of n            the node of a state, and the state of a node
--     SpellsNode layout bytes n        the bytes spell the state of a node that can be
--     layout_of_node, node_spelling    the layout in which a node is written, and its spelling in that
use Rattle.std.specs.Prelude.{◌≡◌, ℕ, ◌-◌, ◌<◌, ◌≤◌, ◌^◌, List, [], ◌∷◌, ◌++◌, length, Ok, Err, nat_lt, ◌||◌, ◌==◌, if◌then◌else◌}
use Rattle.std.specs.Int.{w16, w32, w64, to_be_bytes}
use Rattle.std.specs.List.{flat_map, AllByRecursion}
use Rattle.std.specs.Ordering.{nat_cmp}
use Rattle.std.specs.FinMap as table
use Rattle.std.specs.FinMap.{FinMap}
use Rattle.cc_views.specs.Limits.{session_limit}
use Rattle.cc_views.specs.Rows.{ViewMap}
use Rattle.cc_views.specs.declared.value.Value.{Value}
use Rattle.cc_changes.specs.ChangeSets.{ChangeSets}
use Rattle.cc_changes.specs.declared.fraction.Fraction.{Fraction}
use Rattle.cc_wire.specs.declared.fault.WireFault.TheVariants.{BadKind, NotAscending}
use Rattle.cc_messages.specs.declared.message.Message.{Message}
use Rattle.cc_messages.specs.declared.command.Command.{Command}
use Rattle.cc_messages.specs.declared.answer.Answer.{Answer}
use Rattle.cc_wire.specs.Readers.{◌>>=◌, Reading, ◌⊗◌, via, nothing_at, byte_at, number_at, limited, number_from, items_at, value_at, view_at, changes_at}
use Rattle.cc_wire.specs.Spellings.{IsId, value_spelling, IsValue, view_spelling, IsView, changes_spelling, IsChanges}
use Rattle.cc_wire.specs.Messages.{message_spelling, IsMessage, message_at}
use Rattle.cc_wire.specs.Answers.{answer_spelling, IsAnswer, answer_at}
use Rattle.cc_wire.specs.Events.{asked_spelling, IsAsked, asked_at}
use Rattle.cc_ops.specs.declared.pending_operation.Asked.{Asked}
use Rattle.cc_ops.specs.declared.pending_operation.Pending.{Pending}
use Rattle.cc_ops.specs.Ops.{Phase, Idle, Storing, Querying, StoringBack}
use Rattle.cc_ops.specs.WaitingAsks.{line_limit}
use Rattle.cc_links.specs.Links.{Link, Links}
use Rattle.cc_sessions.specs.Sessions.{Requests}
use Rattle.cc_outbox.specs.Outbox.{Outbox, post_limit}
use Rattle.cc_outbox.specs.Rows.{numbered}
use Rattle.cc_node.specs.Core.{Core}
use Rattle.cc_node.specs.Node.{Node}
use Rattle.cc_node.specs.Lawful.{IsLawfulNode}
use Rattle.cc_messages.specs.Shares.{share_limit}
use Rattle.cc_node_state.specs.Layouts.{layout_for}
use Rattle.cc_node_state.specs.declared.layout.Layout.{Layout}
use Rattle.cc_node_state.specs.declared.layout.Layout.TheVariants.{Plain, Lined, Shared}

-- ---- the fields

-- which node it is, its fractions, and who came and went
pub record Membership : Type 0 where
  pub me : ℕ
  pub beta : Fraction
  pub gamma : Fraction
  pub changes : ChangeSets

-- what is stored, how far the own entering has come, the pending round, and the asks that wait behind it
pub record Work : Type 0 where
  pub view : ViewMap
  pub number : ℕ
  pub mine : Value
  pub tag : ℕ
  pub echoes : ℕ
  pub need : ℕ
  pub phase : Phase
  -- how many asks a round has at most, and those of the pending one beside that of the phase
  pub share : ℕ
  pub others : List Asked
  pub line : List Asked

-- what passed between the node and others; of the kept posts the last has the number `posts`
pub record Tables : Type 0 where
  pub posts : ℕ
  pub links : Links
  pub sessions : Requests
  pub kept : List Message
  pub answers : FinMap nat_cmp Answer

pub record State : Type 0 where
  pub membership : Membership
  pub work : Work
  pub tables : Tables

-- ---- fractions

abbrev pub fraction_spelling : Fraction → List ℕ
fraction_spelling f = to_be_bytes w32 f.num ++ to_be_bytes w32 f.den

pub record IsFraction (f : Fraction) : Type 0 where
  pub num : f.num < 2 ^ 32
  pub den : f.den < 2 ^ 32

abbrev pub fraction_with : ℕ × ℕ → Fraction
fraction_with f = record { num = f.0; den = f.1 }

unfoldable pub fraction_at : Reading Fraction
fraction_at = via fraction_with (number_at w32 ⊗ number_at w32)

-- ---- the first part

abbrev pub membership_spelling : Membership → List ℕ
membership_spelling m = to_be_bytes w32 m.me ++ (fraction_spelling m.beta ++ (fraction_spelling m.gamma ++ changes_spelling m.changes))

pub record IsMembership (m : Membership) : Type 0 where
  pub me : IsId m.me
  pub beta : IsFraction m.beta
  pub gamma : IsFraction m.gamma
  pub changes : IsChanges m.changes

abbrev pub membership_with : ℕ × (Fraction × (Fraction × ChangeSets)) → Membership
membership_with f = record { me = f.0; beta = f.1.0; gamma = f.1.1.0; changes = f.1.1.1 }

unfoldable pub membership_at : Reading Membership
membership_at = via membership_with (number_from 1 ⊗ fraction_at ⊗ fraction_at ⊗ changes_at)

-- ---- the pending operation: what was asked, how many answers it needs and has, and with 3 the view that is stored back

abbrev pub counts_spelling : ℕ → ℕ → List ℕ
counts_spelling need count = to_be_bytes w16 need ++ to_be_bytes w16 count

abbrev pub pending_spelling : Pending → List ℕ
pending_spelling p = asked_spelling p.asked.session p.asked.request p.asked.command ++ counts_spelling p.need p.count

pub record IsPending (p : Pending) : Type 0 where
  pub asked : IsAsked p.asked.session p.asked.request p.asked.command
  pub need : p.need < 2 ^ 16
  pub count : p.count < 2 ^ 16

abbrev pub pending_with : ((ℕ × ℕ) × Command) × (ℕ × ℕ) → Pending
pending_with f = record { asked = record { session = f.0.0.0; request = f.0.0.1; command = f.0.1 }; need = f.1.0; count = f.1.1 }

unfoldable pub pending_at : Reading Pending
pending_at = via pending_with (asked_at ⊗ number_at w16 ⊗ number_at w16)

abbrev pub phase_spelling : Phase → List ℕ
phase_spelling Idle = 0 ∷ []
phase_spelling (Storing p) = 1 ∷ pending_spelling p
phase_spelling (Querying p) = 2 ∷ pending_spelling p
phase_spelling (StoringBack p seen) = 3 ∷ (pending_spelling p ++ view_spelling seen)

abbrev pub IsPhase : Phase → Type 0
IsPhase Idle = Unit {0}
IsPhase (Storing p) = IsPending p
IsPhase (Querying p) = IsPending p
IsPhase (StoringBack p seen) = IsPending p × IsView seen

abbrev pub phase_fields : ℕ → Reading Phase
phase_fields kind =
    if kind == 0 then via (λ _. Idle) nothing_at
    else (if kind == 1 then via (λ p. Storing p) pending_at
    else (if kind == 2 then via (λ p. Querying p) pending_at
    else (if kind == 3 then via (λ f. StoringBack f.0 f.1) (pending_at ⊗ view_at)
    else (λ bytes. Err (BadKind kind)))))

unfoldable pub phase_at : Reading Phase
phase_at bytes = byte_at bytes >>= λ kind. phase_fields kind.0 kind.1

-- ---- asks in order: a count, and so many asks

abbrev pub ask_spelling : Asked → List ℕ
ask_spelling a = asked_spelling a.session a.request a.command

abbrev pub IsAsk : Asked → Type 0
IsAsk a = IsAsked a.session a.request a.command

abbrev pub ask_with : (ℕ × ℕ) × Command → Asked
ask_with f = record { session = f.0.0; request = f.0.1; command = f.1 }

unfoldable pub ask_at : Reading Asked
ask_at = via ask_with asked_at

abbrev pub asks_at : ℕ → Reading (List Asked)
asks_at count = items_at (λ _. ask_at) (λ _. 0) count 0

abbrev pub asks_spelling : List Asked → List ℕ
asks_spelling asks = (length asks ∷ []) ++ flat_map ask_spelling asks

-- so few, each in its place
pub record AreAsks (asks : List Asked) : Type 0 where
  pub fits : length asks ≤ line_limit
  pub each : AllByRecursion IsAsk asks

unfoldable pub ask_list_at : Reading (List Asked)
ask_list_at bytes = limited line_limit byte_at bytes >>= λ n. asks_at n.0 n.1

-- ---- the asks that wait. Version 1 has no place for them: there are none

abbrev pub line_spelling : Layout → List Asked → List ℕ
line_spelling Plain line = []
line_spelling Lined line = asks_spelling line
line_spelling Shared line = asks_spelling line

abbrev pub IsLineOf : Layout → List Asked → Type 0
IsLineOf Plain line = line ≡ []
IsLineOf Lined line = AreAsks line
IsLineOf Shared line = AreAsks line

abbrev pub line_at : Layout → Reading (List Asked)
line_at Plain = via (λ _. []) nothing_at
line_at Lined = ask_list_at
line_at Shared = ask_list_at

-- ---- the share, and the others of the pending round. Only version 32 has a place for them: else the share is 1, and there
-- are none

abbrev pub others_spelling : Layout → ℕ → List Asked → List ℕ
others_spelling Plain share others = []
others_spelling Lined share others = []
others_spelling Shared share others = (share ∷ []) ++ asks_spelling others

-- a share of 1 is written without a place for it
pub record IsRoundShare (share : ℕ) : Type 0 where
  pub several : 2 ≤ share
  pub most : share ≤ share_limit

abbrev pub AreOthersOf : Layout → ℕ → List Asked → Type 0
AreOthersOf Plain share others = (share ≡ 1) × (others ≡ [])
AreOthersOf Lined share others = (share ≡ 1) × (others ≡ [])
AreOthersOf Shared share others = IsRoundShare share × AreAsks others

-- it is read as kinds are: another byte has no meaning
unfoldable pub share_at : Reading ℕ
share_at bytes = byte_at bytes >>= λ n. if nat_lt n.0 2 || nat_lt share_limit n.0 then Err (BadKind n.0) else Ok n

abbrev pub others_at : Layout → Reading (ℕ × List Asked)
others_at Plain = via (λ _. (1, [])) nothing_at
others_at Lined = via (λ _. (1, [])) nothing_at
others_at Shared = share_at ⊗ ask_list_at

-- the pending round, and the asks behind it
abbrev pub round_spelling : Layout → Phase → ℕ → List Asked → List Asked → List ℕ
round_spelling layout phase share others line = phase_spelling phase ++ (others_spelling layout share others ++ line_spelling layout line)

abbrev pub round_at : Layout → Reading (Phase × ((ℕ × List Asked) × List Asked))
round_at layout = phase_at ⊗ others_at layout ⊗ line_at layout

-- ---- the second part

-- the view, the own value under its number, and the tag
abbrev pub stored_spelling : ViewMap → ℕ → Value → ℕ → List ℕ
stored_spelling view number mine tag = view_spelling view ++ (to_be_bytes w64 number ++ (value_spelling mine ++ to_be_bytes w64 tag))

-- how many echoes came, and how many are needed
abbrev pub entering_spelling : ℕ → ℕ → List ℕ
entering_spelling echoes need = to_be_bytes w64 echoes ++ to_be_bytes w16 need

abbrev pub work_spelling : Layout → Work → List ℕ
work_spelling layout w =
    stored_spelling w.view w.number w.mine w.tag ++ (entering_spelling w.echoes w.need ++ round_spelling layout w.phase w.share w.others w.line)

pub record IsWork (layout : Layout) (w : Work) : Type 0 where
  pub view : IsView w.view
  pub number : w.number < 2 ^ 64
  pub mine : IsValue w.mine
  pub tag : w.tag < 2 ^ 64
  pub echoes : w.echoes < 2 ^ 64
  pub need : w.need < 2 ^ 16
  pub phase : IsPhase w.phase
  pub others : AreOthersOf layout w.share w.others
  pub line : IsLineOf layout w.line

abbrev pub stored_at : Reading (ViewMap × (ℕ × (Value × ℕ)))
stored_at = view_at ⊗ number_at w64 ⊗ value_at ⊗ number_at w64

abbrev pub entering_at : Reading (ℕ × ℕ)
entering_at = number_at w64 ⊗ number_at w16

abbrev pub work_with : (ViewMap × (ℕ × (Value × ℕ))) × ((ℕ × ℕ) × (Phase × ((ℕ × List Asked) × List Asked))) → Work
work_with f = record {
  view = f.0.0;
  number = f.0.1.0;
  mine = f.0.1.1.0;
  tag = f.0.1.1.1;
  echoes = f.1.0.0;
  need = f.1.0.1;
  phase = f.1.1.0;
  share = f.1.1.1.0.0;
  others = f.1.1.1.0.1;
  line = f.1.1.1.1;
}

unfoldable pub work_at : Layout → Reading Work
work_at layout = via work_with (stored_at ⊗ entering_at ⊗ round_at layout)

-- ---- tables: a count, and rows whose keys rise

abbrev pub table_spelling : {X : Type 0} → (ℕ × X → List ℕ) → FinMap nat_cmp X → List ℕ
table_spelling row m = to_be_bytes w16 (table.len m) ++ flat_map row (table.entries m)

-- at most so many rows
pub record IsTableOf {X : Type 0} (Is : ℕ × X → Type 0) (limit : ℕ) (m : FinMap nat_cmp X) : Type 0 where
  pub fits : table.len m ≤ limit
  pub rows : AllByRecursion Is (table.entries m)

-- with keys from `least` on
abbrev pub rows_at : {X : Type 0} → (ℕ → Reading (ℕ × X)) → ℕ → ℕ → Reading (List (ℕ × X))
rows_at row count least = items_at row (λ e. e.0) count least

unfoldable pub row_list_at : {X : Type 0} → (ℕ → Reading (ℕ × X)) → ℕ → ℕ → Reading (List (ℕ × X))
row_list_at row limit least bytes = limited limit (number_at w16) bytes >>= λ n. rows_at row n.0 least n.1

abbrev pub table_at : {X : Type 0} → (ℕ → Reading (ℕ × X)) → ℕ → ℕ → Reading (FinMap nat_cmp X)
table_at row limit least = via table.from_entries (row_list_at row limit least)

-- a link: the peer, and its start, acked and heard
abbrev pub link_spelling : ℕ × Link → List ℕ
link_spelling e = to_be_bytes w32 e.0 ++ (to_be_bytes w64 e.1.start ++ (to_be_bytes w64 e.1.acked ++ to_be_bytes w64 e.1.heard))

pub record IsLink (e : ℕ × Link) : Type 0 where
  pub peer : IsId e.0
  pub start : e.1.start < 2 ^ 64
  pub acked : e.1.acked < 2 ^ 64
  pub heard : e.1.heard < 2 ^ 64

abbrev pub link_with : ℕ × (ℕ × (ℕ × ℕ)) → ℕ × Link
link_with f = (f.0, record { start = f.1.0; acked = f.1.1.0; heard = f.1.1.1 })

unfoldable pub link_at : ℕ → Reading (ℕ × Link)
link_at least = via link_with (number_from least ⊗ number_at w64 ⊗ number_at w64 ⊗ number_at w64)

-- the session of a row
unfoldable pub session_from : ℕ → Reading ℕ
session_from least bytes = number_at w64 bytes >>= λ n. if nat_lt n.0 least then Err NotAscending else Ok n

-- a session, and its last request
abbrev pub session_spelling : ℕ × ℕ → List ℕ
session_spelling e = to_be_bytes w64 e.0 ++ to_be_bytes w64 e.1

pub record IsSession (e : ℕ × ℕ) : Type 0 where
  pub session : e.0 < 2 ^ 64
  pub last : e.1 < 2 ^ 64

unfoldable pub session_at : ℕ → Reading (ℕ × ℕ)
session_at least = session_from least ⊗ number_at w64

-- a session, and the answer that is kept for it
abbrev pub kept_answer_spelling : ℕ × Answer → List ℕ
kept_answer_spelling e = to_be_bytes w64 e.0 ++ answer_spelling e.1

pub record IsKeptAnswer (e : ℕ × Answer) : Type 0 where
  pub session : e.0 < 2 ^ 64
  pub answer : IsAnswer e.1

unfoldable pub kept_answer_at : ℕ → Reading (ℕ × Answer)
kept_answer_at least = session_from least ⊗ answer_at

-- ---- kept posts: a count, and so many messages

abbrev pub kept_spelling : List Message → List ℕ
kept_spelling posts = to_be_bytes w16 (length posts) ++ flat_map message_spelling posts

pub record IsKeptPosts (posts : List Message) : Type 0 where
  pub fits : length posts ≤ post_limit
  pub each : AllByRecursion IsMessage posts

-- so many, in any order
abbrev pub posts_at : ℕ → Reading (List Message)
posts_at count = items_at (λ _. message_at) (λ _. 0) count 0

unfoldable pub kept_at : Reading (List Message)
kept_at bytes = limited post_limit (number_at w16) bytes >>= λ n. posts_at n.0 n.1

-- ---- the third part

-- as many rows as a count can tell
abbrev pub most_rows : ℕ
most_rows = 65535

abbrev pub tables_spelling : Tables → List ℕ
tables_spelling t =
    to_be_bytes w64 t.posts
    ++ (table_spelling link_spelling t.links
    ++ (table_spelling session_spelling t.sessions ++ (kept_spelling t.kept ++ table_spelling kept_answer_spelling t.answers)))

pub record IsTables (t : Tables) : Type 0 where
  pub posts : t.posts < 2 ^ 64
  pub links : IsTableOf IsLink most_rows t.links
  pub sessions : IsTableOf IsSession session_limit t.sessions
  pub kept : IsKeptPosts t.kept
  pub answers : IsTableOf IsKeptAnswer most_rows t.answers

abbrev pub tables_with : ℕ × (Links × (Requests × (List Message × FinMap nat_cmp Answer))) → Tables
tables_with f = record { posts = f.0; links = f.1.0; sessions = f.1.1.0; kept = f.1.1.1.0; answers = f.1.1.1.1 }

unfoldable pub tables_at : Reading Tables
tables_at =
    via tables_with
    (number_at w64 ⊗ table_at link_at most_rows 1 ⊗ table_at session_at session_limit 0 ⊗ kept_at ⊗ table_at kept_answer_at most_rows 0)

-- ---- states

abbrev pub state_spelling : Layout → State → List ℕ
state_spelling layout s = membership_spelling s.membership ++ (work_spelling layout s.work ++ tables_spelling s.tables)

pub record IsState (layout : Layout) (s : State) : Type 0 where
  pub membership : IsMembership s.membership
  pub work : IsWork layout s.work
  pub tables : IsTables s.tables

-- the bytes spell the state in this layout
pub record SpellsState (layout : Layout) (bytes : List ℕ) (s : State) : Type 0 where
  pub fits : IsState layout s
  pub spelled : bytes ≡ state_spelling layout s

abbrev pub state_with : Membership × (Work × Tables) → State
state_with f = record { membership = f.0; work = f.1.0; tables = f.1.1 }

unfoldable pub state_at : Layout → Reading State
state_at layout = via state_with (membership_at ⊗ work_at layout ⊗ tables_at)

-- ---- nodes

abbrev pub core_of : State → Core
core_of s = record {
  me = s.membership.me;
  beta = s.membership.beta;
  gamma = s.membership.gamma;
  churn = record { changes = s.membership.changes; echoes = s.work.echoes; need = s.work.need };
  ops = record {
    view = s.work.view;
    number = s.work.number;
    mine = s.work.mine;
    tag = s.work.tag;
    share = s.work.share;
    phase = s.work.phase;
    others = s.work.others;
    line = s.work.line;
  };
  posts = s.tables.posts;
  links = s.tables.links;
  sessions = s.tables.sessions;
}

-- kept posts under their numbers, of which the last is `posts`
abbrev pub numbered_to : ℕ → List Message → FinMap nat_cmp Message
numbered_to posts kept = table.from_entries (numbered (posts - length kept) kept)

abbrev pub outbox_of : Tables → Outbox
outbox_of t = record { last = t.posts; posts = numbered_to t.posts t.kept; answers = t.answers }

abbrev pub node_of : State → Node
node_of s = record { core = core_of s; outbox = outbox_of s.tables }

abbrev pub membership_of : Core → Membership
membership_of c = record { me = c.me; beta = c.beta; gamma = c.gamma; changes = c.churn.changes }

abbrev pub work_of : Core → Work
work_of c = record {
  view = c.ops.view;
  number = c.ops.number;
  mine = c.ops.mine;
  tag = c.ops.tag;
  echoes = c.churn.echoes;
  need = c.churn.need;
  phase = c.ops.phase;
  share = c.ops.share;
  others = c.ops.others;
  line = c.ops.line;
}

abbrev pub tables_of : Node → Tables
tables_of n = record {
  posts = n.core.posts;
  links = n.core.links;
  sessions = n.core.sessions;
  kept = table.values n.outbox.posts;
  answers = n.outbox.answers;
}

abbrev pub state_of : Node → State
state_of n = record { membership = membership_of n.core; work = work_of n.core; tables = tables_of n }

-- the bytes spell the state of a node that can be
pub record SpellsNode (layout : Layout) (bytes : List ℕ) (n : Node) : Type 0 where
  pub lawful : IsLawfulNode n
  pub state : SpellsState layout bytes (state_of n)

-- in which layout a node is written, and how
abbrev pub layout_of_node : Node → Layout
layout_of_node n = layout_for n.core.ops.share

abbrev pub node_spelling : Node → List ℕ
node_spelling n = state_spelling (layout_of_node n) (state_of n)
