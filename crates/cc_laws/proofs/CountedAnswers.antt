-- The answer that is counted with an event: an acknowledgement or a reply of its sender, to the round that pends.
--     IsAckFrom, counted_ack        while acknowledgements are awaited
--     IsReplyFrom, counted_reply    while views are;  its view is merged
use Rattle.std.proofs.Common.{◌≡◌, ℕ, Bool, true, false, refl, List, ◌⊎◌, inl, inr}
use Rattle.std.proofs.lemmas.Bool.{both_ways}
use Rattle.std.proofs.lemmas.Option.{IfSome_then}
use Rattle.std.specs.Prelude.{◌&&◌, IfSome, if◌then◌else◌, Option, Some, None}
use Rattle.std.specs.Bool.{then_some}
use Rattle.std.specs.List.{AllByRecursion}
use Rattle.cc_views.specs.Rows.{ViewMap}
use Rattle.cc_views.specs.Merge.{IsAtMost}
use Rattle.cc_views.specs.MergeLaws.{merged_at_most}
use Rattle.cc_messages.specs.declared.event.Event.{Event}
use Rattle.cc_messages.specs.declared.event.Event.TheVariants as event
use Rattle.cc_messages.specs.declared.message.Message.{Message}
use Rattle.cc_messages.specs.declared.message.Message.TheVariants as message
use Rattle.cc_ops.specs.Ops.{Ops, Phase, Storing, Querying, StoringBack, is_own, after_reply}
use Rattle.cc_node.specs.Core.{Core, quorum, next}
use Rattle.cc_laws.specs.Rounds.{awaits_views, awaits_acks, counts, with_peer}
use Rattle.cc_laws.proofs.PendingRounds.{ack_is, reply_is}
use Rattle.cc_laws.proofs.RoundResults.{of_reply}

abbrev pub IsAckFrom : Core → Event → ℕ → Type 0
IsAckFrom c e r = (n : ℕ) × (e ≡ event.Deliver r n (message.StoreAck c.ops.tag c.me))

abbrev pub IsReplyFrom : Core → Event → ℕ → Type 0
IsReplyFrom c e r = (n : ℕ) × (v : ViewMap) × (e ≡ event.Deliver r n (message.QueryReply v c.ops.tag c.me)) × IsAtMost v (next c e).ops.view

pub with_all : (P : ℕ → Type 0) (o : Option ℕ) (peers : List ℕ) → IfSome o P → AllByRecursion P peers → AllByRecursion P (with_peer o peers)
with_all P None peers h k = k
with_all P (Some x) peers h k = (h, k)

one_there : (b a : Bool) (from : ℕ) (P : ℕ → Type 0) → (b ≡ true → a ≡ true → P from) → IfSome (then_some (b && a) from) P
one_there true true from P f = f refl refl
one_there true false from P f = tt
one_there false a from P f = tt

pub no_views : (phase : Phase) → awaits_acks phase ≡ true → awaits_views phase ≡ false
no_views (Storing p) is = refl
no_views (StoringBack p seen) is = refl
no_views _ is = cc

-- a reply that is counted is merged
reply_merged : (quorum : ℕ) (v : ViewMap) (phase : Phase) (s : Ops) → awaits_views phase ≡ true → IsAtMost v (after_reply quorum v phase s).view
reply_merged quorum v (Querying p) s is = of_reply (λ t. IsAtMost v t.view) quorum v p s (merged_at_most s.view v) (merged_at_most s.view v)
reply_merged quorum v _ s is = cc

own_merged : (b : Bool) (quorum : ℕ) (v : ViewMap) (s : Ops) → b ≡ true → awaits_views s.phase ≡ true
    → IsAtMost v (if b then after_reply quorum v s.phase s else s).view
own_merged true quorum v s own is = reply_merged quorum v s.phase s is
own_merged false quorum v s own is = cc

-- a reply is counted where views are awaited, an acknowledgement where these are
abbrev pub IsCountedFrom : Core → Event → ℕ → Type 0
IsCountedFrom c e r = (IsReplyFrom c e r × (awaits_views c.ops.phase ≡ true)) ⊎ (IsAckFrom c e r × (awaits_acks c.ops.phase ≡ true))

message_counted : (c : Core) (from n : ℕ) (m : Message) → IfSome (counts c (event.Deliver from n m)) (IsCountedFrom c (event.Deliver from n m))
unfolding next
message_counted c from n (message.QueryReply v tag q) =
    let own = is_own c.me tag q c.ops in
    one_there own (awaits_views c.ops.phase) from (IsCountedFrom c (event.Deliver from n (message.QueryReply v tag q)))
    (λ is views. inl ((n, v, reply_is from n c.me tag q v c.ops is, own_merged own (quorum c) v c.ops is views), views))
message_counted c from n (message.StoreAck tag q) =
    one_there (is_own c.me tag q c.ops) (awaits_acks c.ops.phase) from (IsCountedFrom c (event.Deliver from n (message.StoreAck tag q)))
    (λ is acks. inr ((n, ack_is from n c.me tag q c.ops is), acks))
message_counted c from n _ = tt

pub counted_from : (c : Core) (e : Event) → IfSome (counts c e) (IsCountedFrom c e)
counted_from c (event.Deliver from n m) = message_counted c from n m
counted_from c _ = tt

pub counted_ack : (c : Core) (e : Event) → awaits_acks c.ops.phase ≡ true → IfSome (counts c e) (IsAckFrom c e)
counted_ack c e is = IfSome_then (counts c e) {P = IsCountedFrom c e} {Q = IsAckFrom c e} (counted_from c e) only
  where
    only : (r : ℕ) → IsCountedFrom c e r → IsAckFrom c e r
    only r (inl reply) = absurd (both_ways (awaits_views c.ops.phase) (no_views c.ops.phase is) reply.1)
    only r (inr ack) = ack.0

pub counted_reply : (c : Core) (e : Event) → awaits_views c.ops.phase ≡ true → IfSome (counts c e) (IsReplyFrom c e)
counted_reply c e is = IfSome_then (counts c e) {P = IsCountedFrom c e} {Q = IsReplyFrom c e} (counted_from c e) only
  where
    only : (r : ℕ) → IsCountedFrom c e r → IsReplyFrom c e r
    only r (inl reply) = reply.0
    only r (inr ack) = absurd (both_ways (awaits_views c.ops.phase) (no_views c.ops.phase ack.1) is)
