-- The rule of one operation at a time doesn't read the asks that wait: with others it makes the same of all else.
--     post_unaware, next_unaware     the post of an event, and the core after it
--     decides_unaware                what is refused, and why
use Rattle.std.proofs.Common.{◌≡◌, ℕ, ◌+◌, ◌-◌, Bool, true, false, ◌&&◌, ◌||◌, List, [], ◌∷◌, ◌++◌, refl, ap, ◌∙◌}
use Rattle.std.specs.Prelude.{Option, Some, if◌then◌else◌, is_some, ◌==◌}
use Rattle.std.specs.Option.{option_len, option_or}
use Rattle.std.specs.Bool.{then_some}
use Rattle.std.specs.FinMap as table
use Rattle.cc_views.specs.Rows.{ViewMap}
use Rattle.cc_views.specs.Limits.{overruns}
use Rattle.cc_ops.specs.Refusals.{passes}
use Rattle.cc_messages.specs.declared.event.Event.{Event}
use Rattle.cc_messages.specs.declared.event.Event.TheVariants as event
use Rattle.cc_messages.specs.declared.message.Message.{Message}
use Rattle.cc_messages.specs.declared.message.Message.TheVariants as message
use Rattle.cc_messages.specs.declared.refusal.Refusal.TheVariants as refusal
use Rattle.cc_messages.specs.Refusals.{first_of}
use Rattle.cc_churn.specs.Churn as churn
use Rattle.cc_ops.specs.declared.pending_operation.Asked.{Asked}
use Rattle.cc_ops.specs.Commands.{is_writing}
use Rattle.cc_ops.specs.Ops.{Ops, Phase, Storing, Querying, StoringBack, is_last, is_own, with_begun, after_reply, first_post, anew}
use Rattle.cc_outbox.specs.Outbox.{post_limit}
use Rattle.cc_node.specs.Core.{Core, quorum, asked_of, ids_of, links_heard, churn_told, join_told, asks_anew, anew_if, question_if, lowest}
use Rattle.cc_node.specs.Refusals.{nothing_to_ack, too_many_nodes, nothing_to_lapse, any_overruns, row_overruns}
use Rattle.cc_node.specs.OneAtATime.{acked_alone, other_line, waiting, ops_alone, quorum_told, phase_alone, answer_alone, next_alone, post_alone, busy_alone}
use Rattle.cc_node.specs.OneAtATime.{set_full_alone, outbox_full_alone, spent_alone, decides_alone}
use Rattle.cc_node.proofs.AloneLaws.{behind}
use Rattle.cc_node.proofs.PartDecisions.{of_enter, of_entered, of_member, of_retire, of_number, of_range, of_request, of_share}

either_other : (l : List Asked) (b : Bool) (s t : Ops) → (if b then other_line l s else other_line l t) ≡ other_line l (if b then s else t)
either_other l true s t = refl
either_other l false s t = refl

reply_other : (l : List Asked) (quorum : ℕ) (v : ViewMap) (phase : Phase) (s : Ops)
    → after_reply quorum v phase (other_line l s) ≡ other_line l (after_reply quorum v phase s)
reply_other l quorum v (Querying p) s = either_other l (is_last p) _ _
reply_other l quorum v _ s = refl

acked_other : (l : List Asked) (phase : Phase) (s : Ops) → acked_alone phase (other_line l s) ≡ other_line l (acked_alone phase s)
acked_other l (Storing p) s = either_other l (is_last p) _ _
acked_other l (StoringBack p seen) s = either_other l (is_last p) _ _
acked_other l _ s = refl

told_other : (l : List Asked) (me quorum : ℕ) (m : Message) (s : Ops) → ops_alone me quorum m (other_line l s) ≡ other_line l (ops_alone me quorum m s)
told_other l me quorum (message.QueryReply v tag q) s =
    ap (λ (t : Ops). if is_own me tag q s then t else other_line l s) (reply_other l quorum v s.phase s)
    ∙ either_other l (is_own me tag q s) (after_reply quorum v s.phase s) s
told_other l me quorum (message.StoreAck tag q) s =
    ap (λ (t : Ops). if is_own me tag q s then t else other_line l s) (acked_other l s.phase s) ∙ either_other l (is_own me tag q s) (acked_alone s.phase s) s
told_other l me quorum _ s = refl

anew_other : (l : List Asked) (b : Bool) (q : ℕ) (s : Ops) → anew_if b q (other_line l s) ≡ other_line l (anew_if b q s)
anew_other l b q s = either_other l b (anew q s) s

answer_other : (l : List Asked) (me : ℕ) (joined : Bool) (m : Message) (s t : Ops)
    → answer_alone me joined m (other_line l s) (other_line l t) ≡ answer_alone me joined m s t
answer_other l me joined (message.Enter q) s t = refl
answer_other l me joined _ s t = refl

begun_other : (l : List Asked) (me quorum : ℕ) (a : Asked) (s : Ops) → with_begun me quorum a (other_line l s) ≡ other_line l (with_begun me quorum a s)
begun_other l me quorum a s = ap (λ (t : Ops). record t { others = [] }) (either_other l (is_writing a.command) _ _)

-- what a delivery leaves of the operations
phase_other : (l : List Asked) (c : Core) (from n : ℕ) (m : Message) → phase_alone (waiting l c) from n m ≡ other_line l (phase_alone c from n m)
phase_other l c from n m =
    ap (anew_if (asks_anew c from n m) (quorum_told c from n m)) (told_other l c.me (quorum c) m c.ops)
    ∙ anew_other l (asks_anew c from n m) (quorum_told c from n m) (ops_alone c.me (quorum c) m c.ops)

pub post_unaware : (c : Core) (l : List Asked) (e : Event) → post_alone (waiting l c) e ≡ post_alone c e
post_unaware c l (event.Deliver from n m) =
    let later = churn_told c from n m in
    let joined = churn.has_joined c.me later in
    let t = phase_other l c from n m in
    let answer = ap (answer_alone c.me joined m (other_line l c.ops)) t ∙ answer_other l c.me joined m c.ops (phase_alone c from n m) in
    let question = ap (question_if (asks_anew c from n m) c.me (quorum_told c from n m)) (told_other l c.me (quorum c) m c.ops) in
    λ i. option_or (option_or (join_told c from n m) (question i)) (option_or (churn.post_of c.me (t i).view m c.churn later) (answer i))
post_unaware c l (event.Ask s r k) =
    let a = asked_of s r k in
    ap (λ (t : Ops). Some (first_post c.me a t)) (begun_other l c.me (quorum c) a c.ops)
post_unaware c l _ = refl

pub next_unaware : (c : Core) (l : List Asked) (e : Event) → next_alone (waiting l c) e ≡ waiting l (next_alone c e)
unfolding next_alone
next_unaware c l (event.Deliver from n m) = λ i. record c {
  churn = churn_told c from n m;
  ops = phase_other l c from n m i;
  posts = c.posts + option_len (post_unaware c l (event.Deliver from n m) i);
  links = links_heard c from n m;
}
next_unaware c l (event.Ask s r k) = λ i. record c {
  ops = begun_other l c.me (quorum c) (asked_of s r k) c.ops i;
  posts = c.posts + option_len (post_unaware c l (event.Ask s r k) i);
  sessions = table.insert c.sessions s r;
}
next_unaware c l _ = refl

-- ---- what is refused

rows_unaware : (c d : Core) (l : List Asked) (e : Event) → row_overruns (waiting l c) (waiting l d) e ≡ row_overruns c d e
rows_unaware c d l event.Enter = refl
rows_unaware c d l _ = refl

spent_unaware : (c : Core) (l : List Asked) (e : Event) → first_of (spent_alone (waiting l c) e ∷ []) ≡ first_of (spent_alone c e ∷ [])
spent_unaware c l e =
    let d = next_alone c e in
    ap (λ (k : Core). first_of (then_some (any_overruns (waiting l c) k e) refusal.Spent ∷ [])) (next_unaware c l e)
    ∙ ap (λ (b : Bool). first_of (then_some (passes c.ops.number d.ops.number || overruns c.ops.tag d.ops.tag || overruns c.posts d.posts
    || overruns c.churn.echoes d.churn.echoes || b) refusal.Spent ∷ [])) (rows_unaware c d l e)

both_unaware : (c : Core) (l : List Asked) (e : Event)
    → first_of (outbox_full_alone (waiting l c) e ∷ spent_alone (waiting l c) e ∷ []) ≡ first_of (outbox_full_alone c e ∷ spent_alone c e ∷ [])
both_unaware c l e =
    ap (λ (p : Option Message). first_of (then_some (is_some p && ((c.posts - lowest c) == post_limit)) refusal.OutboxFull ∷ spent_alone (waiting l c) e ∷ []))
    (post_unaware c l e) ∙ behind (outbox_full_alone c e ∷ []) _ _ (spent_unaware c l e)

pub decides_unaware : (c : Core) (l : List Asked) (e : Event) → decides_alone (waiting l c) e ≡ decides_alone c e
unfolding decides_alone
decides_unaware c l event.Enter = behind (of_enter c) _ _ (both_unaware c l event.Enter)
decides_unaware c l event.Leave = behind (of_entered c) _ _ (both_unaware c l event.Leave)
decides_unaware c l (event.Deliver from n m) =
    behind (of_entered c ++ of_number c from n m ++ too_many_nodes c (from ∷ ids_of m) ∷ []) _ _ (both_unaware c l (event.Deliver from n m))
decides_unaware c l (event.Acked peer n) = behind (nothing_to_ack c peer n ∷ []) _ _ (spent_unaware c l (event.Acked peer n))
decides_unaware c l (event.Ask s r k) =
    behind (of_member c ++ of_request c s r ++ busy_alone c ∷ set_full_alone c k ∷ []) _ _ (both_unaware c l (event.Ask s r k))
decides_unaware c l (event.Retire q) = behind (of_retire q c ++ too_many_nodes c (q ∷ []) ∷ []) _ _ (spent_unaware c l (event.Retire q))
decides_unaware c l (event.Lapse q) = behind (of_member c ++ nothing_to_lapse c q ∷ []) _ _ (spent_unaware c l (event.Lapse q))
decides_unaware c l event.Snapshot = behind (of_member c) _ _ (both_unaware c l event.Snapshot)
decides_unaware c l (event.Skip from posts) =
    behind (of_entered c ++ of_range c from posts ++ too_many_nodes c (from ∷ []) ∷ []) _ _ (spent_unaware c l (event.Skip from posts))
decides_unaware c l (event.Share share) = behind (of_entered c ++ of_share share c) _ _ (spent_unaware c l (event.Share share))
