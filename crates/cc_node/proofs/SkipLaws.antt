-- An answer that is for another node changes nothing but what is heard on its link, so its number may be skipped.
--     next_skipped, step_skipped     the core after it, and the node
--     puts_skipped, decides_skipped  what is put out, and whether it is refused
--     next_twice, next_in_turn       two ranges, one behind the other, are one;  a range is its numbers in turn
use Rattle.std.proofs.Common.{◌≡◌, ℕ, zero, suc, ◌+◌, Bool, true, false, ◌&&◌, not, List, [], ◌∷◌, ◌++◌, refl, sym, ap, ◌∙◌, add-zero, arith}
use Rattle.std.specs.Prelude.{Option, Some, None, ◌-◌, ◌==◌, ◌||◌, nat_lt, is_some, if◌then◌else◌}
use Rattle.std.specs.Bool.{then_some}
use Rattle.std.specs.List.{AllByRecursion}
use Rattle.std.specs.Option.{option_len}
use Rattle.std.specs.FinMap as table
use Rattle.std.proofs.Math.Bool.{and-true}
use Rattle.cc_views.specs.Limits.{counter_limit, known_limit, overruns}
use Rattle.cc_messages.specs.Messages.{is_for}
use Rattle.cc_messages.specs.Ranges.{Range, IsRange}
use Rattle.cc_messages.specs.Refusals.{first_of}
use Rattle.cc_messages.specs.declared.event.Event.TheVariants as event
use Rattle.cc_messages.specs.declared.message.Message.{Message}
use Rattle.cc_messages.specs.declared.message.Message.TheVariants as message
use Rattle.cc_messages.specs.declared.output.Output.{Output}
use Rattle.cc_messages.specs.declared.refusal.Refusal.{Refusal}
use Rattle.cc_messages.specs.declared.refusal.Refusal.TheVariants as refusal
use Rattle.cc_links.specs.Links.{Links, add, add_all, hear, heard_from}
use Rattle.cc_links.specs.LinkLaws.{all_known, hear_twice}
use Rattle.cc_ops.specs.Ops as ops
use Rattle.cc_ops.specs.Ops.{Ops, is_own}
use Rattle.cc_ops.specs.Refusals.{passes}
use Rattle.cc_ops.specs.declared.pending_operation.Asked.{Asked}
use Rattle.cc_ops.specs.declared.pending_operation.Reply.{Reply}
use Rattle.cc_node.specs.Core.{Core, quorum, ids_of, ack, post, handled, next, replies, outputs, lowest, send_ack, send_post, send_replies, skips}
use Rattle.cc_node.specs.Node.{Node, step, keep, add as add_post}
use Rattle.cc_node.specs.Refusals.{decides, decides_within, old, gap, gap_before, too_many_nodes, outbox_full, spent}
use Rattle.cc_node.specs.Skips.{single, numbers_from, numbers, skipped_in_turn, AreKnown}
use Rattle.cc_outbox.specs.Outbox.{trim, post_limit}
use Rattle.cc_node.proofs.AloneLaws.{behind}
use Rattle.cc_node.proofs.PartDecisions.{of_entered}

-- ---- what it makes of the parts

own_none : (me tag q : ℕ) (s : Ops) → (q == me) ≡ false → is_own me tag q s ≡ false
own_none me tag q s other = ap (λ b. b && (tag == s.tag)) other

ops_none : (me quorum : ℕ) (m : Message) (s : Ops) → is_for m me ≡ false → ops.after_message me quorum m s ≡ s
ops_none me quorum (message.QueryReply v tag q) s other = ap (λ b. if b then ops.after_reply quorum v s.phase s else s) (own_none me tag q s other)
ops_none me quorum (message.StoreAck tag q) s other = ap (λ b. if b then ops.after_ack me quorum s.phase s else s) (own_none me tag q s other)
ops_none me quorum _ s other = cc

post_none : (c : Core) (from n : ℕ) (m : Message) → is_for m c.me ≡ false → post c (event.Deliver from n m) ≡ None
post_none c from n (message.QueryReply v tag q) other =
    let t = (handled c (event.Deliver from n (message.QueryReply v tag q))).ops in
    ap (λ b. then_some (b && ops.ends_query c.ops.phase) (message.Store t.view t.tag c.me)) (own_none c.me tag q c.ops other)
post_none c from n (message.StoreAck tag q) other =
    let t = (handled c (event.Deliver from n (message.StoreAck tag q))).ops in
    ap (λ (b : Bool). ops.post_of_round c.me (if b then ops.begun_in c.ops.phase c.ops else []) t) (own_none c.me tag q c.ops other)
post_none c from n _ other = cc

replies_none : (c : Core) (from n : ℕ) (m : Message) → is_for m c.me ≡ false → replies c (event.Deliver from n m) ≡ []
replies_none c from n (message.QueryReply v tag q) other = refl
replies_none c from n (message.StoreAck tag q) other =
    ap (λ (b : Bool). if b then ops.replies_in c.ops.view c.ops.others c.ops.phase else []) (own_none c.me tag q c.ops other)
replies_none c from n _ other = cc

module _ (c : Core) (from n : ℕ) (m : Message) (other : is_for m c.me ≡ false) (known : AreKnown c (ids_of m)) where
  links_none : add_all c.posts (from ∷ ids_of m) c.links ≡ add c.posts from c.links
  links_none = ap (add c.posts from) (all_known c.posts (ids_of m) c.links known)

pub next_skipped : (c : Core) (from n : ℕ) (m : Message) → is_for m c.me ≡ false → AreKnown c (ids_of m)
    → next c (event.Deliver from n m) ≡ next c (event.Skip from (single n))
unfolding next
next_skipped c from n (message.QueryReply v tag q) other known = λ i. record c {
  ops = ops_none c.me (quorum c) (message.QueryReply v tag q) c.ops other i;
  posts = c.posts + option_len (post_none c from n (message.QueryReply v tag q) other i);
  links = hear from n (links_none c from n (message.QueryReply v tag q) other known i);
}
next_skipped c from n (message.StoreAck tag q) other known = λ i. record c {
  ops = ops_none c.me (quorum c) (message.StoreAck tag q) c.ops other i;
  posts = c.posts + option_len (post_none c from n (message.StoreAck tag q) other i);
  links = hear from n (links_none c from n (message.StoreAck tag q) other known i);
}
next_skipped c from n _ other known = cc

pub puts_skipped : (c : Core) (from n : ℕ) (m : Message) → is_for m c.me ≡ false → AreKnown c (ids_of m)
    → outputs c (event.Deliver from n m) ≡ outputs c (event.Skip from (single n))
puts_skipped c from n m other known = λ i.
    send_ack (ack (event.Deliver from n m)) ++ send_post (next_skipped c from n m other known i) (post_none c from n m other i)
    ++ send_replies (replies_none c from n m other i)

pub step_skipped : (n : Node) (from k : ℕ) (m : Message) → is_for m n.core.me ≡ false → AreKnown n.core (ids_of m)
    → step n (event.Deliver from k m) ≡ step n (event.Skip from (single k))
unfolding step
step_skipped n from k m other known = λ i.
    let d = next_skipped n.core from k m other known i in
    record {
      core = d;
      outbox = trim (lowest d) (keep (replies_none n.core from k m other i) (add_post (post_none n.core from k m other i) n.outbox));
    }

-- ---- whether it is refused

no_snapshot : (c : Core) (from n : ℕ) (m : Message) → is_for m c.me ≡ false → gap c from n m ≡ gap_before c from n
no_snapshot c from n (message.QueryReply v tag q) other = ap (λ b. then_some b (refusal.Gap (heard_from from c.links))) (and-true (skips c from n))
no_snapshot c from n (message.StoreAck tag q) other = ap (λ b. then_some b (refusal.Gap (heard_from from c.links))) (and-true (skips c from n))
no_snapshot c from n _ other = cc

pub decides_skipped : (c : Core) (from n : ℕ) (m : Message) → is_for m c.me ≡ false → AreKnown c (ids_of m)
    → decides c (event.Deliver from n m) ≡ decides c (event.Skip from (single n))
unfolding decides decides_within
decides_skipped c from n m other known =
    let e = event.Skip from (single n) in
    let fails : Core → Option Refusal = λ d. then_some (passes c.ops.number d.ops.number || overruns c.ops.tag d.ops.tag || overruns c.posts d.posts
    || overruns c.churn.echoes d.churn.echoes || nat_lt counter_limit (heard_from from d.links)) refusal.Spent in
    let room : Option Message → Option Refusal = λ p. then_some (is_some p && ((c.posts - lowest c) == post_limit)) refusal.OutboxFull in
    let nodes : Links → Option Refusal = λ ls. then_some (nat_lt known_limit (table.len ls)) refusal.TooManyNodes in
    behind (of_entered c ++ old c from n ∷ []) _ _ (
    (λ i. first_of (no_snapshot c from n m other i ∷ nodes (links_none c from n m other known i) ∷ room (post_none c from n m other i)
    ∷ fails (next_skipped c from n m other known i) ∷ []))
    ∙ behind (gap_before c from n ∷ too_many_nodes c (from ∷ []) ∷ []) (None ∷ spent c e ∷ []) (spent c e ∷ []) refl
    )

-- ---- one range behind another

pub next_twice : (c : Core) (from : ℕ) (first second : Range)
    → next (next c (event.Skip from first)) (event.Skip from second) ≡ next c (event.Skip from (record { first = first.first; last = second.last }))
unfolding next
next_twice c from first second = λ i. record c {
  posts = add-zero (c.posts + 0) i;
  links = hear_twice c.posts (c.posts + 0) from first.last second.last c.links i;
}

-- ---- the numbers of a range

in_turn : (c : Core) (from first n : ℕ)
    → skipped_in_turn (next c (event.Skip from (single first))) from (numbers_from (first + 1) n)
    ≡ next c (event.Skip from (record { first = first; last = first + n }))
in_turn c from first zero = ap (λ (k : ℕ). next c (event.Skip from (record { first = first; last = k }))) (sym (add-zero first))
in_turn c from first (suc n) =
    let last : first + 1 + n ≡ first + suc n = omega arith in
    in_turn (next c (event.Skip from (single first))) from (first + 1) n
    ∙ next_twice c from (single first) (record { first = first + 1; last = first + 1 + n })
    ∙ ap (λ (k : ℕ). next c (event.Skip from (record { first = first; last = k }))) last

pub next_in_turn : (c : Core) (from : ℕ) (r : Range) → IsRange r → skipped_in_turn c from (numbers r) ≡ next c (event.Skip from r)
next_in_turn c from r is =
    let n = r.last - r.first in
    let count : r.last + 1 - r.first ≡ suc n = omega (arith, is.ascends) in
    let last : r.first + n ≡ r.last = omega (arith, is.ascends) in
    ap (λ (k : ℕ). skipped_in_turn c from (numbers_from r.first k)) count
    ∙ in_turn c from r.first n
    ∙ ap (λ (k : ℕ). next c (event.Skip from (record { first = r.first; last = k }))) last
