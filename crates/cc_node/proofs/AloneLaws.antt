-- With no ask that waits, the rule of one operation at a time is the rule of today where none may wait.
--     behind                   only what follows the same reasons can differ
--     refused_alone            what is refused, and why
--     step_same, outputs_same  what an event that isn't refused leaves and puts out
--     lawful_alone, lawful_within   lists of events of which none is refused
--     after_same, line_same    what such a list leaves and puts out
--     leaves_line              the rule of one operation at a time leaves the asks that wait as they are
use Rattle.std.proofs.Common.{◌≡◌, ℕ, ◌+◌, ◌-◌, Bool, true, false, not, ◌&&◌, List, [], ◌∷◌, ◌++◌, refl, sym, ap}
use Rattle.std.proofs.Common.{subst, ◌∙◌}
use Rattle.std.specs.Prelude.{Option, Some, None, if◌then◌else◌, is_some, ◌==◌}
use Rattle.std.specs.Option.{option_len}
use Rattle.std.specs.Bool.{then_some}
use Rattle.std.specs.FinMap as table
use Rattle.cc_views.specs.Rows.{ViewMap}
use Rattle.cc_messages.specs.declared.command.Command.{Command}
use Rattle.cc_messages.specs.declared.event.Event.{Event}
use Rattle.cc_messages.specs.declared.event.Event.TheVariants as event
use Rattle.cc_messages.specs.declared.message.Message.{Message}
use Rattle.cc_messages.specs.declared.message.Message.TheVariants as message
use Rattle.cc_messages.specs.declared.output.Output.{Output}
use Rattle.cc_messages.specs.declared.refusal.Refusal.{Refusal}
use Rattle.cc_messages.specs.declared.refusal.Refusal.TheVariants as refusal
use Rattle.cc_messages.specs.Refusals.{first_of}
use Rattle.cc_ops.specs.declared.pending_operation.Asked.{Asked}
use Rattle.cc_ops.specs.Commands.{finds_no_room}
use Rattle.cc_ops.specs.WaitingAsks.{written_by}
use Rattle.cc_ops.specs.OwnLaws.{round_line}
use Rattle.cc_ops.specs.Rounds.{first_round, line_behind}
use Rattle.cc_ops.specs.RoundLaws.{no_round}
use Rattle.cc_ops.specs.Ops.{Ops, Phase, Idle, Storing, Querying, StoringBack, is_idle, is_last, is_own, counted, with_begun, begin_round, after_ask}
use Rattle.cc_ops.specs.Ops.{after_reply, after_last, after_ack, after_message, first_post, post_of_round, ends_store, begun_by}
use Rattle.cc_outbox.specs.Outbox.{post_limit, trim}
use Rattle.cc_node.specs.Core.{Core, quorum, asked_of, ids_of, links_heard, churn_told, asks_anew, anew_if, next, post, outputs, ack, replies}
use Rattle.cc_node.specs.Core.{send_ack, send_post, send_replies, lowest}
use Rattle.cc_node.specs.Node.{Node, step, after, line, keep, add, forget_asked, IsLawfulWithin}
use Rattle.cc_node.specs.Refusals.{decides_within, nothing_to_ack, too_many_nodes, nothing_to_lapse, set_full, outbox_full, spent, any_overruns}
use Rattle.cc_node.specs.OneAtATime.{acked_alone, ops_alone, quorum_told, next_alone, post_alone, outputs_alone, set_full_alone}
use Rattle.cc_node.specs.OneAtATime.{outbox_full_alone, spent_alone, decides_alone, step_alone, after_alone, line_alone, IsLawfulAlone}
use Rattle.cc_node.proofs.PartDecisions.{of_enter, of_entered, of_member, of_retire, of_number, of_range, of_request, of_share}
use Rattle.cc_node.proofs.OrderLaws.{none_behind, busy_same, idle_within, none_waiting}
use Rattle.cc_node.proofs.RefusalLaws.{free_within}
use Rattle.cc_node.proofs.ToldLaws.{anew_line}

-- ---- the last acknowledgement

last_same : (me quorum : ℕ) (s : Ops) → s.line ≡ [] → record s { phase = Idle; others = [] } ≡ after_last me quorum s
last_same me quorum s none =
    sym (ap (λ (l : List Asked). begin_round me quorum (first_round s.share l) (record s { line = line_behind s.share l })) none
    ∙ (λ i. begin_round me quorum (no_round s.share i) (record s { line = none_behind s.share i }))
    ∙ ap (λ (l : List Asked). record s { phase = Idle; others = []; line = l }) (sym none))

acked_same : (me quorum : ℕ) (phase : Phase) (s : Ops) → s.line ≡ [] → acked_alone phase s ≡ after_ack me quorum phase s
acked_same me quorum (Storing p) s none =
    ap (λ (t : Ops). if is_last p then t else record s { phase = Storing (counted p) }) (last_same me quorum s none)
acked_same me quorum (StoringBack p seen) s none =
    ap (λ (t : Ops). if is_last p then t else record s { phase = StoringBack (counted p) seen }) (last_same me quorum s none)
acked_same me quorum _ s none = refl

ack_same : (me quorum tag q : ℕ) (s : Ops) → s.line ≡ [] → ops_alone me quorum (message.StoreAck tag q) s ≡ after_message me quorum (message.StoreAck tag q) s
ack_same me quorum tag q s none = ap (λ (t : Ops). if is_own me tag q s then t else s) (acked_same me quorum s.phase s none)

none_either : (b : Bool) → (let none : List Asked = [] in (if b then none else none) ≡ none)
none_either true = refl
none_either false = refl

none_begins : (me tag q : ℕ) (s : Ops) → s.line ≡ [] → begun_by me (message.StoreAck tag q) s ≡ []
none_begins me tag q s none =
    ap (λ (o : List Asked). if is_own me tag q s then o else [])
    (ap (λ (l : List Asked). if ends_store s.phase then l else []) (ap (first_round s.share) none ∙ no_round s.share) ∙ none_either (ends_store s.phase))
    ∙ none_either (is_own me tag q s)

-- ---- posts, and cores after an event

-- an acknowledgement with no ask that waits is answered with nothing
ack_post : (c : Core) (from n tag q : ℕ) → c.ops.line ≡ []
    → post_alone c (event.Deliver from n (message.StoreAck tag q)) ≡ post c (event.Deliver from n (message.StoreAck tag q))
ack_post c from n tag q none =
    let after = after_message c.me (quorum c) (message.StoreAck tag q) c.ops in
    sym (ap (λ (asks : List Asked). post_of_round c.me asks after) (none_begins c.me tag q c.ops none))

-- an event of which no ask that waits could be aware: any but an ask where an operation is pending
abbrev IsFree : Core → Event → Type 0
IsFree c (event.Ask s r k) = is_idle c.ops.phase ≡ true
IsFree c _ = Unit {0}

ask_same : (me quorum : ℕ) (a : Asked) (s : Ops) → is_idle s.phase ≡ true → with_begun me quorum a s ≡ after_ask me quorum a s
ask_same me quorum a s idle = sym (ap (λ (b : Bool). if b then with_begun me quorum a s else record s { line = s.line ++ a ∷ [] }) idle)

delivery_post : (c : Core) (from n : ℕ) (m : Message) → c.ops.line ≡ [] → post_alone c (event.Deliver from n m) ≡ post c (event.Deliver from n m)
delivery_post c from n (message.StoreAck tag q) none = ack_post c from n tag q none
delivery_post c from n _ none = refl

ask_post : (c : Core) (s r : ℕ) (k : Command) → is_idle c.ops.phase ≡ true → post_alone c (event.Ask s r k) ≡ post c (event.Ask s r k)
ask_post c s r k idle =
    let a = asked_of s r k in
    ap (λ (t : Ops). Some (first_post c.me a t)) (ask_same c.me (quorum c) a c.ops idle)
    ∙ sym (ap (λ (b : Bool). post_of_round c.me (if b then a ∷ [] else []) (after_ask c.me (quorum c) a c.ops)) idle)

post_same : (c : Core) (e : Event) → c.ops.line ≡ [] → IsFree c e → post_alone c e ≡ post c e
post_same c (event.Deliver from n m) none free = delivery_post c from n m none
post_same c (event.Ask s r k) none free = ask_post c s r k free
post_same c _ none free = refl

-- what a message makes of the operations
told_same : (me quorum : ℕ) (m : Message) (s : Ops) → s.line ≡ [] → ops_alone me quorum m s ≡ after_message me quorum m s
told_same me quorum (message.StoreAck tag q) s none = ack_same me quorum tag q s none
told_same me quorum _ s none = refl

-- the core after a message or an ask, by its operations and its post
next_same : (c : Core) (e : Event) → c.ops.line ≡ [] → IsFree c e → next_alone c e ≡ next c e
unfolding next next_alone
next_same c (event.Deliver from n m) none free = λ i. record c {
  churn = churn_told c from n m;
  ops = anew_if (asks_anew c from n m) (quorum_told c from n m) (told_same c.me (quorum c) m c.ops none i);
  posts = c.posts + option_len (delivery_post c from n m none i);
  links = links_heard c from n m;
}
next_same c (event.Ask s r k) none free = λ i. record c {
  ops = ask_same c.me (quorum c) (asked_of s r k) c.ops free i;
  posts = c.posts + option_len (ask_post c s r k free i);
  sessions = table.insert c.sessions s r;
}
next_same c _ none free = refl

-- ---- what is refused

-- only what follows the same reasons can differ
pub behind : (xs ys zs : List (Option Refusal)) → first_of ys ≡ first_of zs → first_of (xs ++ ys) ≡ first_of (xs ++ zs)
behind [] ys zs e = e
behind (None ∷ xs) ys zs e = behind xs ys zs e
behind (Some r ∷ xs) ys zs e = refl

last_spent : (c : Core) (e : Event) → c.ops.line ≡ [] → IsFree c e → first_of (spent_alone c e ∷ []) ≡ first_of (spent c e ∷ [])
last_spent c e none free = λ i. first_of (then_some (any_overruns c (next_same c e none free i) e) refusal.Spent ∷ [])

last_two : (c : Core) (e : Event) → c.ops.line ≡ [] → IsFree c e
    → first_of (outbox_full_alone c e ∷ spent_alone c e ∷ []) ≡ first_of (outbox_full c e ∷ spent c e ∷ [])
last_two c e none free =
    ap (λ (p : Option Message). first_of (then_some (is_some p && ((c.posts - lowest c) == post_limit)) refusal.OutboxFull ∷ spent_alone c e ∷ []))
    (post_same c e none free) ∙ behind (outbox_full c e ∷ []) _ _ (last_spent c e none free)

-- who is busy isn't looked at further
from_busy : (c : Core) (s r : ℕ) (k : Command) (idle : Bool) → is_idle c.ops.phase ≡ idle → c.ops.line ≡ [] → (let a = event.Ask s r k in
    first_of (then_some (not idle) refusal.Busy ∷ set_full_alone c k ∷ outbox_full_alone c a ∷ spent_alone c a ∷ [])
    ≡ first_of (then_some (not idle) refusal.Busy ∷ set_full c k ∷ outbox_full c a ∷ spent c a ∷ []))
from_busy c s r k true e none =
    let a = event.Ask s r k in
    behind (set_full_alone c k ∷ []) _ _ (last_two c a none e)
    ∙ ap (λ (l : List Asked). first_of (then_some (finds_no_room (written_by l c.ops.mine) k) refusal.SetFull ∷ outbox_full c a ∷ spent c a ∷ [])) (sym none)
from_busy c s r k false e none = refl

pub refused_alone : (c : Core) (e : Event) → c.ops.line ≡ [] → decides_alone c e ≡ decides_within 0 c e
unfolding decides_alone decides_within
refused_alone c event.Enter none = behind (of_enter c) _ _ (last_two c event.Enter none tt)
refused_alone c event.Leave none = behind (of_entered c) _ _ (last_two c event.Leave none tt)
refused_alone c (event.Deliver from n m) none =
    behind (of_entered c ++ of_number c from n m ++ too_many_nodes c (from ∷ ids_of m) ∷ []) _ _ (last_two c (event.Deliver from n m) none tt)
refused_alone c (event.Acked peer n) none = behind (nothing_to_ack c peer n ∷ []) _ _ (last_spent c (event.Acked peer n) none tt)
refused_alone c (event.Ask s r k) none =
    let rest = set_full c k ∷ outbox_full c (event.Ask s r k) ∷ spent c (event.Ask s r k) ∷ [] in
    behind (of_member c ++ of_request c s r) _ _
    (from_busy c s r k (is_idle c.ops.phase) refl none ∙ ap (λ (o : Option Refusal). first_of (o ∷ rest)) (sym (busy_same c s)))
refused_alone c (event.Retire q) none = behind (of_retire q c ++ too_many_nodes c (q ∷ []) ∷ []) _ _ (last_spent c (event.Retire q) none tt)
refused_alone c (event.Lapse q) none = behind (of_member c ++ nothing_to_lapse c q ∷ []) _ _ (last_spent c (event.Lapse q) none tt)
refused_alone c event.Snapshot none = behind (of_member c) _ _ (last_two c event.Snapshot none tt)
refused_alone c (event.Skip from posts) none =
    behind (of_entered c ++ of_range c from posts ++ too_many_nodes c (from ∷ []) ∷ []) _ _ (last_spent c (event.Skip from posts) none tt)
refused_alone c (event.Share share) none = behind (of_entered c ++ of_share share c) _ _ (last_spent c (event.Share share) none tt)

-- ---- one step

-- what isn't refused where none may wait is free
free : (c : Core) (e : Event) → decides_within 0 c e ≡ None → IsFree c e
free c (event.Ask s r k) d = idle_within c s (free_within 0 c s r k d)
free c _ d = tt

pub step_same : (n : Node) (e : Event) → n.core.ops.line ≡ [] → decides_within 0 n.core e ≡ None → step_alone n e ≡ step n e
unfolding step step_alone
step_same n e none d =
    let core = next_same n.core e none (free n.core e d) in
    let made = post_same n.core e none (free n.core e d) in
    λ i. record { core = core i; outbox = trim (lowest (core i)) (keep (replies n.core e) (add (made i) (forget_asked e n.outbox))) }

pub outputs_same : (c : Core) (e : Event) → c.ops.line ≡ [] → decides_within 0 c e ≡ None → outputs_alone c e ≡ outputs c e
outputs_same c e none d =
    λ i. send_ack (ack e) ++ send_post (next_same c e none (free c e d) i) (post_same c e none (free c e d) i) ++ send_replies (replies c e)

-- ---- along a list

pub after_same : (n : Node) (es : List Event) → n.core.ops.line ≡ [] → IsLawfulWithin 0 n es → after_alone n es ≡ after n es
unfolding step
after_same n [] none d = refl
after_same n (e ∷ es) none d =
    ap (λ (m : Node). after_alone m es) (step_same n e none d.0) ∙ after_same (step n e) es (none_waiting n.core e none d.0) d.1

pub line_same : (n : Node) (es : List Event) → n.core.ops.line ≡ [] → IsLawfulWithin 0 n es → line_alone n es ≡ line n es
unfolding step
line_same n [] none d = refl
line_same n (e ∷ es) none d =
    (λ i. outputs_same n.core e none d.0 i ++ line_alone (step_same n e none d.0 i) es)
    ∙ ap (λ (os : List Output). outputs n.core e ++ os) (line_same (step n e) es (none_waiting n.core e none d.0) d.1)

pub lawful_within : (n : Node) (es : List Event) → n.core.ops.line ≡ [] → IsLawfulAlone n es → IsLawfulWithin 0 n es
unfolding step
lawful_within n [] none d = tt
lawful_within n (e ∷ es) none d =
    let taken = sym (refused_alone n.core e none) ∙ d.0 in
    (taken, lawful_within (step n e) es (none_waiting n.core e none taken) (subst (λ (m : Node). IsLawfulAlone m es) (step_same n e none taken) d.1))

pub lawful_alone : (n : Node) (es : List Event) → n.core.ops.line ≡ [] → IsLawfulWithin 0 n es → IsLawfulAlone n es
unfolding step
lawful_alone n [] none d = tt
lawful_alone n (e ∷ es) none d = (
  refused_alone n.core e none ∙ d.0,
  subst (λ (m : Node). IsLawfulAlone m es) (sym (step_same n e none d.0)) (lawful_alone (step n e) es (none_waiting n.core e none d.0) d.1),
)

-- ---- the asks that wait

either_line : (b : Bool) (s t : Ops) (l : List Asked) → s.line ≡ l → t.line ≡ l → (if b then s else t).line ≡ l
either_line true s t l h k = h
either_line false s t l h k = k

reply_line : (quorum : ℕ) (v : ViewMap) (phase : Phase) (s : Ops) → (after_reply quorum v phase s).line ≡ s.line
reply_line quorum v (Querying p) s = either_line (is_last p) _ _ s.line refl refl
reply_line quorum v _ s = refl

acked_line : (phase : Phase) (s : Ops) → (acked_alone phase s).line ≡ s.line
acked_line (Storing p) s = either_line (is_last p) _ _ s.line refl refl
acked_line (StoringBack p seen) s = either_line (is_last p) _ _ s.line refl refl
acked_line _ s = refl

told_line : (me quorum : ℕ) (m : Message) (s : Ops) → (ops_alone me quorum m s).line ≡ s.line
told_line me quorum (message.QueryReply v tag q) s = either_line (is_own me tag q s) _ _ s.line (reply_line quorum v s.phase s) refl
told_line me quorum (message.StoreAck tag q) s = either_line (is_own me tag q s) _ _ s.line (acked_line s.phase s) refl
told_line me quorum _ s = refl

pub leaves_line : (c : Core) (e : Event) → (next_alone c e).ops.line ≡ c.ops.line
unfolding next_alone
leaves_line c (event.Deliver from n m) =
    anew_line (asks_anew c from n m) (quorum_told c from n m) (ops_alone c.me (quorum c) m c.ops) ∙ told_line c.me (quorum c) m c.ops
leaves_line c (event.Ask s r k) = round_line c.me (quorum c) (asked_of s r k ∷ []) c.ops
leaves_line c _ = refl
