-- The rule of a node that carries out one operation at a time: an ask begins at once, or is Busy while another is
-- pending; the last acknowledgement of an operation leaves none pending. No row reads the asks that wait, nor changes
-- them.
--     acked_alone, ops_alone   what an acknowledgement makes of the phase, and a message of the operations
--     answer_alone             what a message is answered with
--     phase_alone, told_post_alone   what a delivery leaves of the operations, where a snapshot lets the pending phase
--                              begin anew, and what a snapshot is answered with
--     next_alone, post_alone   the core after an event, and the post that it makes
--     outputs_alone            what is put out for it, in order
--     decides_alone            none, or the reason for which an event is refused
--     step_alone               the node after an event
--     after_alone, line_alone  after a list of events, and all that is put out along it
--     IsLawfulAlone            no event of the list is refused
--     other_line, waiting      the operations and the core where these asks wait in place of others
use Rattle.std.specs.Prelude.{◌≡◌, ℕ, ◌+◌, ◌-◌, Bool, ◌==◌, ◌&&◌, not, List, [], ◌∷◌, ◌++◌, Option, Some, None, is_some, if◌then◌else◌}
use Rattle.std.specs.Option.{option_len, option_or}
use Rattle.std.specs.Bool.{then_some}
use Rattle.std.specs.FinMap as table
use Rattle.cc_messages.specs.declared.command.Command.{Command}
use Rattle.cc_messages.specs.declared.event.Event.{Event}
use Rattle.cc_messages.specs.declared.event.Event.TheVariants as event
use Rattle.cc_messages.specs.declared.message.Message.{Message}
use Rattle.cc_messages.specs.declared.message.Message.TheVariants as message
use Rattle.cc_messages.specs.declared.output.Output.{Output}
use Rattle.cc_messages.specs.declared.refusal.Refusal.{Refusal}
use Rattle.cc_messages.specs.declared.refusal.Refusal.TheVariants as refusal
use Rattle.cc_messages.specs.Refusals.{first_of}
use Rattle.cc_churn.specs.Churn as churn
use Rattle.cc_ops.specs.declared.pending_operation.Asked.{Asked}
use Rattle.cc_ops.specs.Commands.{finds_no_room}
use Rattle.cc_ops.specs.Ops.{Ops, Phase, Idle, Storing, Querying, StoringBack, is_idle, is_last, counted, merged, is_own, with_begun, after_reply}
use Rattle.cc_ops.specs.Ops.{first_post, ends_query, with_share}
use Rattle.cc_links.specs.Links as links
use Rattle.cc_outbox.specs.Outbox.{post_limit, trim}
use Rattle.cc_node.specs.Core.{Core, asked_of, ids_of, with_links, links_heard, churn_told, join_told, asks_anew, anew_if, question_if}
use Rattle.cc_node.specs.Core.{quorum, ack, replies, send_ack, send_post, send_replies, lowest}
use Rattle.cc_node.specs.Node.{Node, keep, add, forget_asked}
use Rattle.cc_node.specs.Refusals.{left, has_gone, not_entered, already_entered, not_joined, old, gap, gap_before, nothing_to_ack, too_many_nodes}
use Rattle.cc_node.specs.Refusals.{too_many_sessions, repeat, stale, skip, nothing_to_lapse, same_share, busy_beyond, any_overruns}

-- ---- operations

-- one more acknowledgement of the store: with the last one the operation is done
abbrev pub acked_alone : Phase → Ops → Ops
acked_alone Idle s = s
acked_alone (Storing p) s = if is_last p then record s { phase = Idle; others = [] } else record s { phase = Storing (counted p) }
acked_alone (Querying p) s = s
acked_alone (StoringBack p seen) s = if is_last p then record s { phase = Idle; others = [] } else record s { phase = StoringBack (counted p) seen }

abbrev pub ops_alone : ℕ → ℕ → Message → Ops → Ops
ops_alone me quorum (message.EnterEcho c v from_joined q) s = merged v s
ops_alone me quorum (message.QueryReply v tag q) s = if is_own me tag q s then after_reply quorum v s.phase s else s
ops_alone me quorum (message.Store v tag q) s = merged v s
ops_alone me quorum (message.StoreAck tag q) s = if is_own me tag q s then acked_alone s.phase s else s
ops_alone me quorum (message.Snapshot c v) s = merged v s
ops_alone me quorum _ s = s

-- before and after are the states around the message. Only a node that has joined serves others
abbrev pub answer_alone : ℕ → Bool → Message → Ops → Ops → Option Message
answer_alone me is_joined (message.Query tag q) before after = then_some is_joined (message.QueryReply after.view tag q)
answer_alone me is_joined (message.QueryReply v tag q) before after =
    then_some (is_own me tag q before && ends_query before.phase) (message.Store after.view after.tag me)
answer_alone me is_joined (message.Store v tag q) before after = then_some is_joined (message.StoreAck tag q)
answer_alone me is_joined _ before after = None

-- ---- the core

-- the pending phase begins anew with the need of those that are members then, where the own snapshot came or one that
-- skips
abbrev pub quorum_told : Core → ℕ → ℕ → Message → ℕ
quorum_told c from n m = churn.quorum c.beta (churn_told c from n m)

abbrev pub phase_alone : Core → ℕ → ℕ → Message → Ops
phase_alone c from n m = anew_if (asks_anew c from n m) (quorum_told c from n m) (ops_alone c.me (quorum c) m c.ops)

-- the Join of a node that joins with a snapshot, else what the phase asks that begins anew
abbrev pub told_post_alone : Core → ℕ → ℕ → Message → Option Message
told_post_alone c from n m =
    option_or (join_told c from n m)
    (question_if (asks_anew c from n m) c.me (quorum_told c from n m) (ops_alone c.me (quorum c) m c.ops))

-- the core after an event, its post not yet counted
abbrev pub handled_alone : Core → Event → Core
handled_alone c event.Enter = record c { churn = churn.with_entered c.me c.churn }
handled_alone c event.Leave = record c { churn = churn.with_left c.me c.churn }
handled_alone c (event.Deliver from n m) = record c { churn = churn_told c from n m; ops = phase_alone c from n m; links = links_heard c from n m }
handled_alone c (event.Acked peer n) = record c { links = links.ack peer n c.links }
handled_alone c (event.Ask s r command) = record c {
  ops = with_begun c.me (quorum c) (asked_of s r command) c.ops;
  sessions = table.insert c.sessions s r;
}
handled_alone c (event.Retire q) = record (with_links (q ∷ []) c) { churn = churn.with_left q c.churn }
handled_alone c (event.Lapse q) = record c { links = links.lapse c.posts q c.links }
handled_alone c event.Snapshot = c
handled_alone c (event.Skip from posts) = record c { links = links.hear from posts.last (links.add c.posts from c.links) }
handled_alone c (event.Share share) = record c { ops = with_share share c.ops }

abbrev pub post_to_alone : Message → Core → Core → Option Message
post_to_alone m before after =
    option_or (churn.post_of after.me after.ops.view m before.churn after.churn)
    (answer_alone after.me (churn.has_joined after.me after.churn) m before.ops after.ops)

abbrev pub post_alone : Core → Event → Option Message
post_alone c event.Enter = Some (message.Enter c.me)
post_alone c event.Leave = Some (message.Leave c.me)
post_alone c (event.Deliver from n m) = option_or (told_post_alone c from n m) (post_to_alone m c (handled_alone c (event.Deliver from n m)))
post_alone c (event.Ask s r command) = Some (first_post c.me (asked_of s r command) (handled_alone c (event.Ask s r command)).ops)
post_alone c event.Snapshot = Some (message.Snapshot c.churn.changes c.ops.view)
post_alone c _ = None

unfoldable pub next_alone : Core → Event → Core
next_alone c e = record (handled_alone c e) { posts = c.posts + option_len (post_alone c e) }

abbrev pub outputs_alone : Core → Event → List Output
outputs_alone c e = send_ack (ack e) ++ send_post (next_alone c e) (post_alone c e) ++ send_replies (replies c e)

-- ---- what is refused

abbrev pub busy_alone : Core → Option Refusal
busy_alone c = then_some (not (is_idle c.ops.phase)) refusal.Busy

abbrev pub set_full_alone : Core → Command → Option Refusal
set_full_alone c command = then_some (finds_no_room c.ops.mine command) refusal.SetFull

abbrev pub outbox_full_alone : Core → Event → Option Refusal
outbox_full_alone c e = then_some (is_some (post_alone c e) && ((c.posts - lowest c) == post_limit)) refusal.OutboxFull

abbrev pub spent_alone : Core → Event → Option Refusal
spent_alone c e = then_some (any_overruns c (next_alone c e) e) refusal.Spent

abbrev pub reasons_alone : Core → Event → List (Option Refusal)
reasons_alone c event.Enter = left c ∷ already_entered c ∷ outbox_full_alone c event.Enter ∷ spent_alone c event.Enter ∷ []
reasons_alone c event.Leave = left c ∷ not_entered c ∷ outbox_full_alone c event.Leave ∷ spent_alone c event.Leave ∷ []
reasons_alone c (event.Deliver from n m) =
    let e = event.Deliver from n m in
    left c ∷ not_entered c ∷ old c from n ∷ gap c from n m ∷ too_many_nodes c (from ∷ ids_of m) ∷ outbox_full_alone c e ∷ spent_alone c e ∷ []
reasons_alone c (event.Acked peer n) = nothing_to_ack c peer n ∷ spent_alone c (event.Acked peer n) ∷ []
reasons_alone c (event.Ask s r command) =
    let e = event.Ask s r command in
    left c ∷ not_entered c ∷ not_joined c ∷ too_many_sessions c s ∷ repeat c s r ∷ stale c s r ∷ skip c s r
    ∷ busy_alone c ∷ set_full_alone c command ∷ outbox_full_alone c e ∷ spent_alone c e ∷ []
reasons_alone c (event.Retire q) =
    left c ∷ has_gone c q ∷ not_entered c ∷ too_many_nodes c (q ∷ []) ∷ spent_alone c (event.Retire q) ∷ []
reasons_alone c (event.Lapse q) =
    left c ∷ not_entered c ∷ not_joined c ∷ nothing_to_lapse c q ∷ spent_alone c (event.Lapse q) ∷ []
reasons_alone c event.Snapshot =
    left c ∷ not_entered c ∷ not_joined c ∷ outbox_full_alone c event.Snapshot ∷ spent_alone c event.Snapshot ∷ []
reasons_alone c (event.Skip from posts) =
    left c ∷ not_entered c ∷ old c from posts.last ∷ gap_before c from posts.first ∷ too_many_nodes c (from ∷ []) ∷ spent_alone c (event.Skip from posts) ∷ []
reasons_alone c (event.Share share) =
    left c ∷ not_entered c ∷ same_share share c ∷ busy_beyond share c ∷ spent_alone c (event.Share share) ∷ []

unfoldable pub decides_alone : Core → Event → Option Refusal
decides_alone c e = first_of (reasons_alone c e)

-- ---- the node

unfoldable pub step_alone : Node → Event → Node
step_alone n e = record {
  core = next_alone n.core e;
  outbox = trim (lowest (next_alone n.core e))
      (keep (replies n.core e) (add (post_alone n.core e) (forget_asked e n.outbox)));
}

abbrev pub after_alone : Node → List Event → Node
after_alone n [] = n
after_alone n (e ∷ es) = after_alone (step_alone n e) es

abbrev pub line_alone : Node → List Event → List Output
line_alone n [] = []
line_alone n (e ∷ es) = outputs_alone n.core e ++ line_alone (step_alone n e) es

abbrev pub IsLawfulAlone : Node → List Event → Type 0
IsLawfulAlone n [] = Unit {0}
IsLawfulAlone n (e ∷ es) = (decides_alone n.core e ≡ None) × IsLawfulAlone (step_alone n e) es

-- ---- with other asks that wait

abbrev pub other_line : List Asked → Ops → Ops
other_line asks s = record s { line = asks }

abbrev pub waiting : List Asked → Core → Core
waiting asks c = record c { ops = other_line asks c.ops }
