-- The core of a node, and what one event makes of it and puts out.
--     Core            the plain state
--     begun C e       the asks that an event begins
--     heard C from n m     what each message does
--     with_snapshot   what a snapshot may do beside: it counts as an echo, and a phase begins anew (tells, asks_anew)
--     next C e        the state after an event
--     made C e        the acknowledgement, the post and the answers that it makes
--     outputs C e     what is put out for it, in order
use Rattle.std.specs.Prelude.{ℕ, ◌+◌, ◌-◌, ◌==◌, ◌&&◌, ◌||◌, nat_lt, not, Bool, false, if◌then◌else◌, List, [], ◌∷◌, ◌++◌, map, Option, Some, None}
use Rattle.std.specs.Option.{option_len, option_or}
use Rattle.std.specs.FinMap as table
use Rattle.cc_views.specs.NatSets as set
use Rattle.cc_changes.specs.declared.fraction.Fraction.{Fraction}
use Rattle.cc_messages.specs.declared.command.Command.{Command}
use Rattle.cc_messages.specs.declared.event.Event.{Event}
use Rattle.cc_messages.specs.declared.event.Event.TheVariants as event
use Rattle.cc_messages.specs.declared.message.Message.{Message}
use Rattle.cc_messages.specs.declared.message.Message.TheVariants as message
use Rattle.cc_messages.specs.Messages.{is_snapshot}
use Rattle.cc_messages.specs.declared.output.Output.{Output}
use Rattle.cc_messages.specs.declared.output.Output.TheVariants as output
use Rattle.cc_churn.specs.Churn as churn
use Rattle.cc_ops.specs.Ops as ops
use Rattle.cc_links.specs.Links as links
use Rattle.cc_links.specs.Links.{Link, Links}
use Rattle.cc_sessions.specs.Sessions.{Requests}
use Rattle.cc_ops.specs.declared.pending_operation.Asked.{Asked}
use Rattle.cc_ops.specs.declared.pending_operation.Reply.{Reply}
use Rattle.cc_node.specs.declared.made.LinkAck.{LinkAck}
use Rattle.cc_node.specs.declared.made.Made.{Made}

pub record Core : Type 0 where
  pub me : ℕ
  pub beta : Fraction
  pub gamma : Fraction
  pub churn : churn.Churn
  pub ops : ops.Ops
  -- how many posts were ever made
  pub posts : ℕ
  pub links : Links
  -- of each session the last request
  pub sessions : Requests

-- how many answers an operation needs that begins now
abbrev pub quorum : Core → ℕ
quorum c = churn.quorum c.beta c.churn

-- every node that a message names
abbrev pub ids_of : Message → List ℕ
ids_of (message.Enter q) = q ∷ []
ids_of (message.EnterEcho c v from_joined q) = q ∷ set.items c.entered ++ set.items c.joined ++ set.items c.left ++ table.keys v
ids_of (message.Join q) = q ∷ []
ids_of (message.JoinEcho q) = q ∷ []
ids_of (message.Leave q) = q ∷ []
ids_of (message.LeaveEcho q) = q ∷ []
ids_of (message.Query tag q) = q ∷ []
ids_of (message.QueryReply v tag q) = q ∷ table.keys v
ids_of (message.Store v tag q) = q ∷ table.keys v
ids_of (message.StoreAck tag q) = q ∷ []
ids_of (message.Snapshot c v) = set.items c.entered ++ set.items c.joined ++ set.items c.left ++ table.keys v

-- with a link to each of these nodes
abbrev pub with_links : List ℕ → Core → Core
with_links ids c = record c { links = links.add_all c.posts ids c.links }

-- ---- a message

-- who entered, joined and left by it, and the links: one to each node that it names, and its number is heard of its sender
abbrev pub churned : Core → Message → churn.Churn
churned c m = churn.after_message c.me c.gamma m c.churn

abbrev pub links_heard : Core → ℕ → ℕ → Message → Links
links_heard c from n m = links.hear from n (links.add_all c.posts (from ∷ ids_of m) c.links)

-- what each message does; a snapshot may do more
abbrev pub heard : Core → ℕ → ℕ → Message → Core
heard c from n m = record c { churn = churned c m; ops = ops.after_message c.me (quorum c) m c.ops; links = links_heard c from n m }

-- ---- a snapshot

-- whether a number leaves out some that were sent before it
abbrev pub skips : Core → ℕ → ℕ → Bool
skips c from n = nat_lt (links.heard_from from c.links + 1) n

-- whether it is a snapshot by which a node has entered
abbrev pub is_told_of : ℕ → Message → Bool
is_told_of me (message.Snapshot d v) = set.contains d.entered me
is_told_of me _ = false

-- whether a node that hasn't joined has counted fewer echoes than nodes were heard of
abbrev pub lacks_echo : Core → ℕ → ℕ → Message → Bool
lacks_echo c from n m = not (churn.has_joined c.me (churned c m)) && nat_lt (churned c m).echoes (links.heard_of (links_heard c from n m))

-- whether a snapshot counts as an echo to the own Enter, since it may stand for one that lapsed
abbrev pub tells : Core → ℕ → ℕ → Message → Bool
tells c from n m = is_told_of c.me m && (skips c from n && lacks_echo c from n m)

abbrev pub told_if : Bool → ℕ → Fraction → churn.Churn → churn.Churn
told_if b me gamma s = if b then churn.told me gamma s else s

-- whether the pending phase begins anew: the own snapshot came, or one that skips, so that answers may be lost
abbrev pub asks_anew : Core → ℕ → ℕ → Message → Bool
asks_anew c from n m = is_snapshot m && (not (ops.is_idle c.ops.phase) && ((from == c.me) || skips c from n))

abbrev pub anew_if : Bool → ℕ → ops.Ops → ops.Ops
anew_if b quorum s = if b then ops.anew quorum s else s

-- it counts as an echo where it `tells`; then the pending phase begins anew where it `asks_anew`, with the need of those that are members
-- by then
abbrev pub with_snapshot : (echoes again : Bool) → Core → Core
with_snapshot echoes again c =
    let d = record c { churn = told_if echoes c.me c.gamma c.churn } in
    record d { ops = anew_if again (quorum d) d.ops }

-- the parts of it
abbrev pub churn_told : Core → ℕ → ℕ → Message → churn.Churn
churn_told c from n m = told_if (tells c from n m) c.me c.gamma (churned c m)

abbrev pub ops_anew : Core → ℕ → ℕ → Message → ops.Ops
ops_anew c from n m = anew_if (asks_anew c from n m) (churn.quorum c.beta (churn_told c from n m)) (ops.after_message c.me (quorum c) m c.ops)

-- ---- an event

abbrev pub asked_of : ℕ → ℕ → Command → Asked
asked_of s r command = record { session = s; request = r; command = command }

-- the asks that an event begins: itself, or the first round of those that waited for the last acknowledgement
abbrev pub begun : Core → Event → List Asked
begun c (event.Deliver from n m) = ops.begun_by c.me m c.ops
begun c (event.Ask s r command) = ops.begun_by_ask (asked_of s r command) c.ops
begun c _ = []

-- the state after an event, its post not yet counted
abbrev pub handled : Core → Event → Core
handled c event.Enter = record c { churn = churn.with_entered c.me c.churn }
handled c event.Leave = record c { churn = churn.with_left c.me c.churn }
handled c (event.Deliver from n m) = with_snapshot (tells c from n m) (asks_anew c from n m) (heard c from n m)
handled c (event.Acked peer n) = record c { links = links.ack peer n c.links }
handled c (event.Ask s r command) = record c {
  ops = ops.after_ask c.me (quorum c) (asked_of s r command) c.ops;
  sessions = table.insert c.sessions s r;
}
handled c (event.Retire q) = record (with_links (q ∷ []) c) { churn = churn.with_left q c.churn }
handled c (event.Lapse q) = record c { links = links.lapse c.posts q c.links }
handled c event.Snapshot = c
handled c (event.Skip from posts) = record c { links = links.hear from posts.last (links.add c.posts from c.links) }
handled c (event.Share share) = record c { ops = ops.with_share share c.ops }

-- what a message is answered with
abbrev pub post_to : Message → Core → Core → Option Message
post_to m before after =
    option_or (churn.post_of after.me after.ops.view m before.churn after.churn)
    (ops.post_of after.me (churn.has_joined after.me after.churn) m before.ops after.ops)

-- the Join of a node that joins with a snapshot
abbrev pub join_told : Core → ℕ → ℕ → Message → Option Message
join_told c from n m = if tells c from n m then churn.join_told c.me c.gamma (churned c m) else None

-- what the phase asks that begins anew
abbrev pub question_if : Bool → ℕ → ℕ → ops.Ops → Option Message
question_if b me quorum s = if b then ops.question me (ops.anew quorum s) else None

-- what a snapshot is answered with: the Join, else what the phase asks that begins anew
abbrev pub post_of_snapshot : Core → ℕ → ℕ → Message → Option Message
post_of_snapshot c from n m =
    option_or (join_told c from n m)
    (question_if (asks_anew c from n m) c.me (churn.quorum c.beta (churn_told c from n m)) (ops.after_message c.me (quorum c) m c.ops))

-- the post of an event: the state after it is told, up to the count of posts
abbrev pub post : Core → Event → Option Message
post c event.Enter = Some (message.Enter c.me)
post c event.Leave = Some (message.Leave c.me)
post c (event.Deliver from n m) = option_or (post_of_snapshot c from n m) (post_to m c (handled c (event.Deliver from n m)))
post c (event.Ask s r command) =
    ops.post_of_round c.me (begun c (event.Ask s r command)) (handled c (event.Ask s r command)).ops
post c event.Snapshot = Some (message.Snapshot c.churn.changes c.ops.view)
post c _ = None

unfoldable pub next : Core → Event → Core
next c e = record (handled c e) { posts = c.posts + option_len (post c e) }

-- the acknowledgement of a delivery
abbrev pub ack : Event → Option LinkAck
ack (event.Deliver from n m) = Some (record { to = from; number = n })
ack (event.Skip from posts) = Some (record { to = from; number = posts.last })
ack _ = None

-- what clients are told
abbrev pub replies : Core → Event → List Reply
replies c (event.Deliver from n m) = ops.replies_of c.me m c.ops
replies c _ = []

abbrev pub made : Core → Event → Made
made c e = record { ack = ack e; post = post c e; answers = replies c e }

abbrev pub live_links : Core → Links
live_links c = links.live c.churn.changes.left c.links

-- every post up to it is acknowledged on each live link
abbrev pub lowest : Core → ℕ
lowest c = links.lowest c.churn.changes.left c.posts c.links

-- post number n on each link of a table, by ascending peer
abbrev pub sends : ℕ → Message → List (ℕ × Link) → List Output
sends n m rows = map (λ row. output.Send row.0 (n - row.1.start) m) rows

abbrev pub send_post : Core → Option Message → List Output
send_post after None = []
send_post after (Some m) = sends after.posts m (table.entries (live_links after))

abbrev pub send_ack : Option LinkAck → List Output
send_ack None = []
send_ack (Some a) = output.Ack a.to a.number ∷ []

abbrev pub send_replies : List Reply → List Output
send_replies rs = map (λ r. output.Reply r.session r.request r.answer) rs

abbrev pub outputs : Core → Event → List Output
outputs c e = send_ack (ack e) ++ send_post (next c e) (post c e) ++ send_replies (replies c e)
