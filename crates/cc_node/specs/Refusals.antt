-- When an event is refused, and why: of the reasons that hold, the first in the order given here.
--     decides_within limit    the rule by which no more than `limit` asks wait
--     decides                 the rule, by which no more than 32 do
use Rattle.std.specs.Prelude.{◌==◌, ℕ, ◌+◌, ◌-◌, Bool, false, ◌&&◌, ◌||◌, not, nat_lt, nat_le, List, [], ◌∷◌, Option, is_some}
use Rattle.std.specs.Option.{option_map_or}
use Rattle.std.specs.Bool.{then_some}
use Rattle.std.specs.FinMap as table
use Rattle.cc_views.specs.Limits.{counter_limit, known_limit, overruns}
use Rattle.cc_messages.specs.declared.command.Command.{Command}
use Rattle.cc_messages.specs.declared.message.Message.{Message}
use Rattle.cc_messages.specs.Messages.{is_snapshot}
use Rattle.cc_messages.specs.Shares.{is_no_share}
use Rattle.cc_messages.specs.declared.event.Event.{Event}
use Rattle.cc_messages.specs.declared.event.Event.TheVariants as event
use Rattle.cc_messages.specs.declared.refusal.Refusal.{Refusal}
use Rattle.cc_messages.specs.declared.refusal.Refusal.TheVariants as refusal
use Rattle.cc_messages.specs.Refusals.{first_of}
pub use Rattle.cc_messages.specs.Refusals.{decided}
use Rattle.cc_churn.specs.Churn as churn
use Rattle.cc_churn.specs.Refusals as coming
use Rattle.cc_ops.specs.Refusals as pending
use Rattle.cc_ops.specs.Refusals.{passes}
use Rattle.cc_ops.specs.WaitingAsks.{line_limit}
use Rattle.cc_links.specs.Links as links
use Rattle.cc_outbox.specs.Outbox.{post_limit}
use Rattle.cc_sessions.specs.Sessions as sessions
use Rattle.cc_sessions.specs.Sessions.{last_request}
use Rattle.cc_node.specs.Core.{Core, next, post, lowest, ids_of, with_links, skips}

abbrev pub left : Core → Option Refusal
left c = coming.left c.me c.churn

-- of a node to retire
abbrev pub has_gone : Core → ℕ → Option Refusal
has_gone c q = coming.left q c.churn

abbrev pub not_entered : Core → Option Refusal
not_entered c = coming.not_entered c.me c.churn

abbrev pub already_entered : Core → Option Refusal
already_entered c = coming.already_entered c.me c.churn

abbrev pub not_joined : Core → Option Refusal
not_joined c = coming.not_joined c.me c.churn

abbrev pub old : Core → ℕ → ℕ → Option Refusal
old c from n = let heard = links.heard_from from c.links in then_some (nat_le n heard) (refusal.Old heard)

-- a snapshot may leave out what was sent before it
abbrev pub gap : Core → ℕ → ℕ → Message → Option Refusal
gap c from n m = let heard = links.heard_from from c.links in then_some (nat_lt (heard + 1) n && not (is_snapshot m)) (refusal.Gap heard)

-- a post before these may still come, and may be for this node
abbrev pub gap_before : Core → ℕ → ℕ → Option Refusal
gap_before c from first = then_some (skips c from first) (refusal.Gap (links.heard_from from c.links))

abbrev pub nothing_to_ack : Core → ℕ → ℕ → Option Refusal
nothing_to_ack c peer n = then_some (not (option_map_or (links.awaits_ack c.posts n) (table.get c.links peer) false)) refusal.NothingToAck

-- nothing is kept for a node without a link, for one that has left, and where all is acknowledged
abbrev pub nothing_to_lapse : Core → ℕ → Option Refusal
nothing_to_lapse c q =
    then_some (churn.has_left q c.churn || not (option_map_or (links.awaits_any c.posts) (table.get c.links q) false)) refusal.NothingToAck

abbrev pub too_many_nodes : Core → List ℕ → Option Refusal
too_many_nodes c ids = then_some (nat_lt known_limit (table.len (with_links ids c).links)) refusal.TooManyNodes

abbrev pub too_many_sessions : Core → ℕ → Option Refusal
too_many_sessions c s = then_some (sessions.finds_no_room c.sessions s) refusal.TooManySessions

abbrev pub repeat : Core → ℕ → ℕ → Option Refusal
repeat c s r = then_some (sessions.is_repeat c.sessions s r) refusal.Repeat

abbrev pub stale : Core → ℕ → ℕ → Option Refusal
stale c s r = then_some (sessions.is_stale c.sessions s r) (refusal.Stale (last_request c.sessions s))

abbrev pub skip : Core → ℕ → ℕ → Option Refusal
skip c s r = then_some (sessions.is_skip c.sessions s r) (refusal.Skip (last_request c.sessions s))

abbrev pub busy : ℕ → Core → ℕ → Option Refusal
busy limit c s = pending.busy limit s c.ops

abbrev pub same_share : ℕ → Core → Option Refusal
same_share share c = pending.same_share share c.ops

abbrev pub busy_beyond : ℕ → Core → Option Refusal
busy_beyond share c = pending.busy_beyond share c.ops

abbrev pub set_full : Core → Command → Option Refusal
set_full c command = pending.set_full command c.ops

-- a post that would be one too many to keep
abbrev pub outbox_full : Core → Event → Option Refusal
outbox_full c e = then_some (is_some (post c e) && ((c.posts - lowest c) == post_limit)) refusal.OutboxFull

-- of the tables only the row that the event is about can change; what is heard may rise by more than one. What isn't a share is no
-- event of the format, so that no node is told it
abbrev pub row_overruns : Core → Core → Event → Bool
row_overruns c d (event.Deliver from n m) = nat_lt counter_limit (links.heard_from from d.links)
row_overruns c d (event.Skip from posts) = nat_lt counter_limit (links.heard_from from d.links)
row_overruns c d (event.Ask s r command) = overruns (last_request c.sessions s) (last_request d.sessions s)
row_overruns c d (event.Share share) = is_no_share d.ops.share
row_overruns c d _ = false

abbrev pub any_overruns : Core → Core → Event → Bool
any_overruns c d e =
    passes c.ops.number d.ops.number || overruns c.ops.tag d.ops.tag || overruns c.posts d.posts
    || overruns c.churn.echoes d.churn.echoes || row_overruns c d e

abbrev pub spent : Core → Event → Option Refusal
spent c e = then_some (any_overruns c (next c e) e) refusal.Spent

-- the reasons that may apply to an event, in the order in which they are looked at
abbrev pub reasons : ℕ → Core → Event → List (Option Refusal)
reasons limit c event.Enter = left c ∷ already_entered c ∷ outbox_full c event.Enter ∷ spent c event.Enter ∷ []
reasons limit c event.Leave = left c ∷ not_entered c ∷ outbox_full c event.Leave ∷ spent c event.Leave ∷ []
reasons limit c (event.Deliver from n m) =
    let e = event.Deliver from n m in
    left c ∷ not_entered c ∷ old c from n ∷ gap c from n m ∷ too_many_nodes c (from ∷ ids_of m) ∷ outbox_full c e ∷ spent c e ∷ []
reasons limit c (event.Acked peer n) = nothing_to_ack c peer n ∷ spent c (event.Acked peer n) ∷ []
reasons limit c (event.Ask s r command) =
    let e = event.Ask s r command in
    left c ∷ not_entered c ∷ not_joined c ∷ too_many_sessions c s ∷ repeat c s r ∷ stale c s r ∷ skip c s r
    ∷ busy limit c s ∷ set_full c command ∷ outbox_full c e ∷ spent c e ∷ []
reasons limit c (event.Retire q) = left c ∷ has_gone c q ∷ not_entered c ∷ too_many_nodes c (q ∷ []) ∷ spent c (event.Retire q) ∷ []
reasons limit c (event.Lapse q) = left c ∷ not_entered c ∷ not_joined c ∷ nothing_to_lapse c q ∷ spent c (event.Lapse q) ∷ []
reasons limit c event.Snapshot = left c ∷ not_entered c ∷ not_joined c ∷ outbox_full c event.Snapshot ∷ spent c event.Snapshot ∷ []
reasons limit c (event.Skip from posts) =
    left c ∷ not_entered c ∷ old c from posts.last ∷ gap_before c from posts.first ∷ too_many_nodes c (from ∷ []) ∷ spent c (event.Skip from posts) ∷ []
reasons limit c (event.Share share) = left c ∷ not_entered c ∷ same_share share c ∷ busy_beyond share c ∷ spent c (event.Share share) ∷ []

-- none, or the reason for which an event is refused, where no more than so many asks wait
unfoldable pub decides_within : ℕ → Core → Event → Option Refusal
decides_within limit c e = first_of (reasons limit c e)

unfoldable pub decides : Core → Event → Option Refusal
decides c e = decides_within line_limit c e
