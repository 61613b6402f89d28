-- What each event makes of a core, part by part, and that the parts have room for it.
--     next_enter, ..        the core after an event, by its parts
--     told_as, anew_as      what counting a snapshot makes of it, and a phase that begins anew
--     next_keeps            what is the next core is lawful
--     .._room               that each part's call has what it asks for
use Rattle.std.proofs.Common.{◌≡◌, ℕ, ◌+◌, ◌-◌, ◌<◌, ◌≤◌, Bool, true, false, cond, ◌&&◌, List, [], ◌∷◌, ◌++◌, length, refl, sym, ap, subst, ◌∙◌, arith, add-zero}
use Rattle.std.specs.Prelude.{Option, Some, None, is_some, IsTrue, IsFalse, ◌==◌, if◌then◌else◌}
use Rattle.std.specs.Bool.{then_some}
use Rattle.std.specs.Option.{option_len}
use mir.Val.{bool_byte}
use Rattle.std.specs.FinMap as table
use Rattle.std.proofs.lemmas.Bool.{ltb-false}
use Rattle.cc_views.specs.NatSets as set
use Rattle.cc_views.specs.NatSets.{NatSet, len_within, same_ids, contains-from_list, contains-keys}
use Rattle.cc_views.specs.Limits.{counter_limit, known_limit}
use Rattle.cc_changes.specs.ChangeSets.{FitsRoom}
use Rattle.cc_changes.specs.ChangeLaws.{fits_among}
use Rattle.cc_changes.specs.declared.fraction.Fraction.{Fraction}
use Rattle.cc_churn.specs.Churn as churn
use Rattle.cc_churn.proofs.Fits.{before_echo}
use Rattle.cc_messages.specs.Ranges.{Range}
use Rattle.cc_links.specs.Links.{Links, add as add_peer, add_all, hear, ack, lapse}
use Rattle.cc_links.specs.LinkLaws.{len_add_all}
use Rattle.cc_ops.specs.Ops as ops
use Rattle.cc_ops.specs.Commands.{finds_no_room}
use Rattle.cc_ops.specs.declared.pending_operation.Asked.{Asked}
use Rattle.cc_ops.specs.Refusals.{busy}
use Rattle.cc_ops.specs.WaitingAsks.{line_limit, written_by}
use Rattle.cc_sessions.specs.Sessions.{finds_no_room as finds_no_session}
use Rattle.cc_messages.specs.declared.command.Command.{Command}
use Rattle.cc_messages.specs.declared.event.Event.{Event}
use Rattle.cc_messages.specs.declared.event.Event.TheVariants as event
use Rattle.cc_messages.specs.declared.message.Message.{Message}
use Rattle.cc_messages.specs.declared.refusal.Refusal.TheVariants as refusal
use Rattle.cc_outbox.specs.Outbox.{post_limit}
use Rattle.cc_outbox.specs.OutboxLaws.{room_for_post}
use Rattle.cc_node.specs.Core.{Core, asked_of, links_heard, churned, told_if, tells, churn_told, asks_anew, anew_if, ops_anew, handled, next, post}
use Rattle.cc_node.specs.Core.{replies, quorum, ids_of, lowest}
use Rattle.cc_node.specs.Node.{Node, step, add, keep, forget_asked}
use Rattle.cc_node.specs.Lawful.{IsLawfulCore, IsLawfulNode}
use Rattle.cc_node.specs.Refusals.{decides}
use Rattle.cc_node.proofs.PartDecisions.{posts_if_idle}
use Rattle.cc_node.proofs.KeptLaws.{posts_forget}
use Rattle.cc_node.proofs.KnownLaws.{none_waits}
use Rattle.cc_node.proofs.LawfulLaws.{next_core, quorum_fits, others_fit, step_lawful}
use Rattle.cc_node.proofs.RefusalLaws.{takes_delivery, takes_ask, takes_retire, takes_skip, takes_any}
use Rattle.cc_node.proofs.ToldLaws.{told_more, told_one, anew_view, anew_number, anew_more, anew_one}

-- ---- what a lawful core has room for

pub changes_fit : (c : Core) → IsLawfulCore c → FitsRoom c.churn.changes
changes_fit c h = fits_among c.links c.churn.changes h.changes h.link_count

pub view_fits : (c : Core) → IsLawfulCore c → table.len c.ops.view ≤ 256
view_fits c h = omega (arith, len_within c.ops.view c.links h.view, h.link_count)

-- ---- the core after each event. s is the core, and c the same by its fields

pub next_enter : {c s : Core} {d : churn.Churn} → c ≡ s → d ≡ churn.with_entered c.me c.churn
    → record c { churn = d; posts = c.posts + 1 } ≡ next s event.Enter
unfolding next
next_enter is made = rw (← is, made) refl

pub next_leave : {c s : Core} {d : churn.Churn} → c ≡ s → d ≡ churn.with_left c.me c.churn → record c { churn = d; posts = c.posts + 1 } ≡ next s event.Leave
unfolding next
next_leave is made = rw (← is, made) refl

pub next_ack : (c s : Core) (peer n : ℕ) (ls : Links) → c ≡ s → ls ≡ ack peer n c.links → record c { links = ls } ≡ next s (event.Acked peer n)
unfolding next
next_ack c s peer n ls is made = (λ i. record c { links = made i; posts = sym (add-zero c.posts) i }) ∙ ap (λ (d : Core). next d (event.Acked peer n)) is

pub next_lapse : (c s : Core) (q : ℕ) (ls : Links) → c ≡ s → ls ≡ lapse c.posts q c.links → record c { links = ls } ≡ next s (event.Lapse q)
unfolding next
next_lapse c s q ls is made = (λ i. record c { links = made i; posts = sym (add-zero c.posts) i }) ∙ ap (λ (d : Core). next d (event.Lapse q)) is

pub next_skip : {c s : Core} {ls : Links} (from : ℕ) (posts : Range) → c ≡ s → ls ≡ hear from posts.last (add_peer c.posts from c.links)
    → record c { links = ls } ≡ next s (event.Skip from posts)
unfolding next
next_skip {c} from posts is linked =
    (λ i. record c { links = linked i; posts = sym (add-zero c.posts) i }) ∙ ap (λ (d : Core). next d (event.Skip from posts)) is

pub next_snapshot : {c s : Core} → c ≡ s → record c { posts = c.posts + 1 } ≡ next s event.Snapshot
unfolding next
next_snapshot is = rw (← is) refl

pub next_share : {c s : Core} {o : ops.Ops} (share : ℕ) → c ≡ s → o ≡ ops.with_share share c.ops → record c { ops = o } ≡ next s (event.Share share)
unfolding next
next_share {c} share is made =
    (λ i. record c { ops = made i; posts = sym (add-zero c.posts) i }) ∙ ap (λ (d : Core). next d (event.Share share)) is

len_is : {X : Type 0} (o : Option X) → option_len o ≡ cond (is_some o) 1 0
len_is None = refl
len_is (Some x) = refl

pub next_delivery : (c : Core) (from n : ℕ) (m : Message) → next c (event.Deliver from n m) ≡ record c {
  churn = churn_told c from n m;
  ops = ops_anew c from n m;
  posts = c.posts + cond (is_some (post c (event.Deliver from n m))) 1 0;
  links = links_heard c from n m;
}
unfolding next
next_delivery c from n m = ap (λ (k : ℕ). record (handled c (event.Deliver from n m)) { posts = c.posts + k }) (len_is (post c (event.Deliver from n m)))

pub next_ask : (c : Core) (s r : ℕ) (k : Command) → next c (event.Ask s r k)
    ≡ record c {
      ops = ops.after_ask c.me (quorum c) (asked_of s r k) c.ops;
      posts = c.posts + cond (ops.is_idle c.ops.phase) 1 0;
      sessions = table.insert c.sessions s r;
    }
unfolding next
next_ask c s r k =
    let e = event.Ask s r k in
    ap (λ (n : ℕ). record (handled c e) { posts = c.posts + n }) (len_is (post c e) ∙ ap (λ b. cond b 1 0) (posts_if_idle c s r k))

pub next_retire : {c s : Core} {d : churn.Churn} {ls : Links} (q : ℕ) → c ≡ s → ls ≡ add_all c.posts (q ∷ []) c.links → d ≡ churn.with_left q c.churn
    → record c { churn = d; links = ls } ≡ next s (event.Retire q)
unfolding next
next_retire {c} q is linked made =
    (λ i. record c { churn = made i; links = linked i; posts = sym (add-zero c.posts) i }) ∙ ap (λ (d : Core). next d (event.Retire q)) is

-- what counting a snapshot makes of a part, and a phase that begins anew, by tests of a copy of the core
pub told_as : {c s : Core} {b : Bool} {d : churn.Churn} (from n : ℕ) (m : Message) → c ≡ s → b ≡ tells s from n m → d ≡ churned c m
    → told_if b c.me c.gamma d ≡ churn_told c from n m
told_as {c} from n m is tests same = λ i. told_if ((tests ∙ ap (λ (k : Core). tells k from n m) (sym is)) i) c.me c.gamma (same i)

pub anew_as : {c s : Core} {b : Bool} {q : ℕ} {o : ops.Ops} (from n : ℕ) (m : Message) → c ≡ s → b ≡ asks_anew s from n m
    → q ≡ churn.quorum c.beta (churn_told c from n m) → o ≡ ops.after_message c.me (quorum c) m c.ops → anew_if b q o ≡ ops_anew c from n m
anew_as from n m is tests needs same = λ i. anew_if ((tests ∙ ap (λ (k : Core). asks_anew k from n m) (sym is)) i) (needs i) (same i)

-- ---- what the parts ask for

-- what is the next core is lawful
pub next_keeps : {c s d : Core} (e : Event) → c ≡ s → d ≡ next s e → decides s e ≡ None → IsLawfulCore c → IsLawfulCore d
next_keeps e is same none h = subst IsLawfulCore (sym same) (next_core _ e none (subst IsLawfulCore is h))

pub enter_room : {c s : Core} → c ≡ s → decides s event.Enter ≡ None → IsLawfulCore c → FitsRoom (churn.with_entered c.me c.churn).changes
enter_room is none h = changes_fit _ (next_keeps event.Enter is (next_enter is refl) none h)

pub leave_room : {c s : Core} → c ≡ s → decides s event.Leave ≡ None → IsLawfulCore c → FitsRoom (churn.with_left c.me c.churn).changes
leave_room is none h = changes_fit _ (next_keeps event.Leave is (next_leave is refl) none h)

before_told : (b : Bool) (me : ℕ) (gamma : Fraction) (s : churn.Churn) → FitsRoom (told_if b me gamma s).changes → FitsRoom s.changes
before_told true me gamma s h = before_echo me gamma true s h
before_told false me gamma s h = h

pub record DeliveryRoom (c s : Core) (from n : ℕ) (m : Message) : Type 0 where
  pub named : table.len (add_all c.posts (ids_of m) c.links) ≤ 256
  pub links : table.len (add_all c.posts (from ∷ ids_of m) c.links) ≤ 256
  pub changes : FitsRoom (churn.after_message c.me c.gamma m c.churn).changes
  pub echoes : (churn.after_message c.me c.gamma m c.churn).echoes ≤ counter_limit
  pub told : FitsRoom (churn_told c from n m).changes
  pub counts : tells c from n m ≡ true → (churned c m).echoes + 1 ≤ counter_limit
  pub again : churn.quorum c.beta (churn_told c from n m) ≤ 256
  pub few : {q : ℕ} → q ≡ quorum s → q ≤ 256
  pub view : {q : ℕ} → q ≡ quorum s → table.len (ops.after_message c.me q m c.ops).view ≤ 256
  pub number : {q : ℕ} → q ≡ quorum s → (ops.after_message c.me q m c.ops).number ≤ counter_limit
  pub tag : {q : ℕ} → q ≡ quorum s → (ops.after_message c.me q m c.ops).tag ≤ counter_limit
  pub anew : {q : ℕ} → q ≡ quorum s → asks_anew c from n m ≡ true → (ops.after_message c.me q m c.ops).tag + 1 ≤ counter_limit

pub delivery_room : {c s : Core} {from : ℕ} {m : Message} (n : ℕ) → c ≡ s → decides s (event.Deliver from n m) ≡ None → IsLawfulCore c
    → DeliveryRoom c s from n m
unfolding next
delivery_room {c} {s} {from} {m} n is d h =
    let none = rw (← is) at d in
    let after = next_core c (event.Deliver from n m) none h in
    let all = ltb-false known_limit (table.len (add_all c.posts (from ∷ ids_of m) c.links)) (takes_delivery c from n m none).nodes in
    let t = tells c from n m in
    let a = asks_anew c from n m in
    let o = ops.after_message c.me (quorum c) m c.ops in
    let again = churn.quorum c.beta (churn_told c from n m) in
    record {
      named = omega (arith, len_add_all c.posts (from ∷ []) (add_all c.posts (ids_of m) c.links), all);
      links = all;
      changes = before_told t c.me c.gamma (churned c m) (changes_fit _ after);
      echoes = omega (arith, after.counts.echoes, told_more t c.me c.gamma (churned c m));
      told = changes_fit _ after;
      counts = λ e. omega (arith, after.counts.echoes, told_one t c.me c.gamma (churned c m) e);
      again = omega (arith, quorum_fits _ after);
      few = λ e. rw (e, ← is) (quorum_fits c h);
      view = λ e. rw (e, ← is) (omega (arith, view_fits _ after, ap table.len (anew_view a again o)));
      number = λ e. rw (e, ← is) (omega (arith, after.counts.number, anew_number a again o));
      tag = λ e. rw (e, ← is) (omega (arith, after.counts.tag, anew_more a again o));
      anew = λ e asks. rw (e, ← is) (omega (arith, after.counts.tag, anew_one a again o asks));
    }

pub skip_room : {c s : Core} (from : ℕ) (posts : Range) → c ≡ s → decides s (event.Skip from posts) ≡ None → table.len (add_peer c.posts from c.links) ≤ 256
skip_room {c} from posts is d =
    ltb-false known_limit (table.len (add_all c.posts (from ∷ []) c.links)) (takes_skip c from posts (rw (← is) at d)).nodes

pub share_room : {c s : Core} (share : ℕ) → c ≡ s → decides s (event.Share share) ≡ None → IsLawfulCore c → length c.ops.others < share
share_room {c} share is d h = others_fit c share (rw (← is) at d) h

pub record AskRoom (c d : Core) (s r : ℕ) (k : Command) : Type 0 where
  pub free : busy line_limit s c.ops ≡ None
  pub set : IsFalse (finds_no_room (ops.mine_at_last c.ops) k)
  pub session : IsFalse (finds_no_session c.sessions s)
  pub few : {q : ℕ} → q ≡ quorum d → q ≤ 256
  pub view : {q : ℕ} → q ≡ quorum d → table.len (ops.after_ask c.me q (asked_of s r k) c.ops).view ≤ 256
  pub number : {q : ℕ} → q ≡ quorum d → (ops.after_ask c.me q (asked_of s r k) c.ops).number ≤ counter_limit
  pub tag : {q : ℕ} → q ≡ quorum d → (ops.after_ask c.me q (asked_of s r k) c.ops).tag ≤ counter_limit

pub ask_room : {c d : Core} {s r : ℕ} {k : Command} → c ≡ d → decides d (event.Ask s r k) ≡ None → IsLawfulCore c → AskRoom c d s r k
unfolding next
ask_room {c} {d} {s} {r} {k} is accepted h =
    let none = rw (← is) at accepted in
    let after = next_core c (event.Ask s r k) none h in
    let takes = takes_ask c s r k none in
    record {
      free = ap (λ b. then_some b refusal.Busy) takes.free;
      set = takes.room;
      session = takes.sessions;
      few = λ e. rw (e, ← is) (quorum_fits c h);
      view = λ e. rw (e, ← is) (view_fits _ after);
      number = λ e. rw (e, ← is) after.counts.number;
      tag = λ e. rw (e, ← is) after.counts.tag;
    }

-- an ask that begins, where nothing is pending
pub record BeginRoom (c d : Core) (s r : ℕ) (k : Command) : Type 0 where
  pub set : IsFalse (finds_no_room c.ops.mine k)
  pub view : {q : ℕ} → q ≡ quorum d → table.len (ops.with_begun c.me q (asked_of s r k) c.ops).view ≤ 256
  pub number : {q : ℕ} → q ≡ quorum d → (ops.with_begun c.me q (asked_of s r k) c.ops).number ≤ counter_limit
  pub tag : {q : ℕ} → q ≡ quorum d → (ops.with_begun c.me q (asked_of s r k) c.ops).tag ≤ counter_limit

pub begins_now : (me q : ℕ) (a : Asked) (o : ops.Ops) → ops.is_idle o.phase ≡ true → ops.after_ask me q a o ≡ ops.with_begun me q a o
begins_now me q a o idle = ap (λ b. if b then ops.with_begun me q a o else record o { line = o.line ++ a ∷ [] }) idle

pub begin_room : {c d : Core} {s r : ℕ} {k : Command} → c ≡ d → decides d (event.Ask s r k) ≡ None → IsLawfulCore c → ops.is_idle c.ops.phase ≡ true
    → BeginRoom c d s r k
begin_room {c} {d} {s} {r} {k} is accepted h idle =
    let room = ask_room is accepted h in
    let now = λ (q : ℕ). begins_now c.me q (asked_of s r k) c.ops idle in
    let none = none_waits c.ops.phase c.ops.line idle h.line.behind in
    record {
      set = ap (λ (l : List Asked). finds_no_room (written_by l c.ops.mine) k) (sym none) ∙ room.set;
      view = λ {q} e. subst (λ (o : ops.Ops). table.len o.view ≤ 256) (now q) (room.view e);
      number = λ {q} e. subst (λ (o : ops.Ops). o.number ≤ counter_limit) (now q) (room.number e);
      tag = λ {q} e. subst (λ (o : ops.Ops). o.tag ≤ counter_limit) (now q) (room.tag e);
    }

pub record RetireRoom (c : Core) (q : ℕ) : Type 0 where
  pub links : table.len (add_all c.posts (q ∷ []) c.links) ≤ 256
  pub changes : FitsRoom (churn.with_left q c.churn).changes

pub retire_room : {c s : Core} (q : ℕ) → c ≡ s → decides s (event.Retire q) ≡ None → IsLawfulCore c → RetireRoom c q
unfolding next
retire_room {c} q is d h =
    let none = rw (← is) at d in
    record {
      links = ltb-false known_limit (table.len (add_all c.posts (q ∷ []) c.links)) (takes_retire c q none).nodes;
      changes = changes_fit _ (next_core c (event.Retire q) none h);
    }

-- ---- lists of a set

pub from_items : (s : NatSet) → set.from_list (set.items s) ≡ s
from_items s = same_ids _ _ (λ q. contains-from_list (set.items s) q ∙ sym (contains-keys s q))

-- a test as a number
pub byte_is : (b : Bool) (n : ℕ) (d : Bool) → n ≡ bool_byte b → b ≡ d → n ≡ cond d 1 0
byte_is true n true e h = e
byte_is true n false e h = cc
byte_is false n true e h = cc
byte_is false n false e h = e

-- ---- the outbox

both_false : (a b : Bool) → (a && b) ≡ false → IsTrue a → b ≡ false
both_false true b h k = h
both_false false b h k = cc

-- there is room for the post of an event that isn't refused
pub post_room : {n s : Node} (e : Event) → n ≡ s → decides s.core e ≡ None → IsLawfulNode n → IsTrue (is_some (post s.core e))
    → table.len (forget_asked e n.outbox).posts < 512
post_room {n} e is d h made =
    let none : decides n.core e ≡ None = rw is d in
    let makes : IsTrue (is_some (post n.core e)) = rw is made in
    let c = n.core in
    let free = both_false (is_some (post c e)) ((c.posts - lowest c) == post_limit) (takes_any c e none).posts makes in
    let room : table.len n.outbox.posts < post_limit = room_for_post (lowest c) c.posts n.outbox.posts h.posts free in
    omega (arith, room, ap table.len (posts_forget e n.outbox))

answers_fit : (n : Node) → IsLawfulNode n → table.len n.outbox.answers ≤ 256
answers_fit n h = omega (arith, len_within n.outbox.answers n.core.sessions (λ s there. (h.answers s there).0), h.core.session_count)

-- there is room for its answer
pub answer_room : {n s : Node} (e : Event) → n ≡ s → decides s.core e ≡ None → IsLawfulNode n
    → table.len (keep (replies s.core e) (add (post s.core e) (forget_asked e n.outbox))).answers ≤ 256
unfolding step
answer_room {n} e is d h = rw (← is) (answers_fit (step n e) (step_lawful n e (rw is d) h))
