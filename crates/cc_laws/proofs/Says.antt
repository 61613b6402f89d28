-- What a post, a reply and an output tell of the event that made it.
--     tag_next, tag_after          a tag never falls
--     stored_of                    the view that a round stores: what is stored back, else the node's
--     PostSays, post_says          a query or a store is of a round that begins with the event, under its tag;
--                                  an answer is to the message that the event brings, and tells the view as it is then
--     ReplySays, each_says         a reply ends a round, and tells what the pending operation is answered
--     OutputSays, outputs_say      what is sent is the event's post, and what is replied its reply
use Rattle.std.proofs.Common.{◌≡◌, ℕ, ◌+◌, ◌-◌, ◌<◌, ◌≤◌, Bool, true, false, List, [], ◌∷◌, ◌++◌, refl, subst, arith}
use Rattle.std.specs.Prelude.{◌&&◌, Option, Some, None, IfSome, if◌then◌else◌, map, ⊤}
use Rattle.std.specs.Bool.{then_some}
use Rattle.std.specs.List.{AllByRecursion, Contains}
use Rattle.std.specs.FinMap as table
use Rattle.std.proofs.lemmas.Bool.{cond_both}
use Rattle.cc_views.specs.Rows.{ViewMap}
use Rattle.cc_views.specs.Merge.{merge, IsAtMost}
use Rattle.cc_views.specs.MapLaws.{all_entries}
use Rattle.cc_views.specs.MergeLaws.{merged_at_most}
use Rattle.cc_messages.specs.declared.event.Event.{Event}
use Rattle.cc_messages.specs.declared.event.Event.TheVariants as event
use Rattle.cc_messages.specs.declared.message.Message.{Message}
use Rattle.cc_messages.specs.declared.message.Message.TheVariants as message
use Rattle.cc_messages.specs.declared.output.Output.{Output}
use Rattle.cc_messages.specs.declared.output.Output.TheVariants as output
use Rattle.cc_churn.specs.Churn as churn
use Rattle.cc_links.specs.Links.{Link}
use Rattle.cc_ops.specs.declared.pending_operation.Asked.{Asked}
use Rattle.cc_ops.specs.declared.pending_operation.Pending.{Pending}
use Rattle.cc_ops.specs.declared.pending_operation.Reply.{Reply}
use Rattle.cc_ops.specs.Commands.{is_writing}
use Rattle.cc_ops.specs.Ops as ops
use Rattle.cc_ops.specs.Ops.{Ops, Phase, Idle, Storing, Querying, StoringBack, is_idle, is_last, is_own, round_of, counted, merged, next_round, begin_round}
use Rattle.cc_ops.specs.Ops.{with_begun, after_ask, after_reply, after_last, after_ack, after_message, begun_in, ends_query, told, replies_in}
use Rattle.cc_ops.specs.Rounds.{first_round, line_behind}
use Rattle.cc_node.specs.declared.made.LinkAck.{LinkAck}
use Rattle.cc_node.specs.Core as core
use Rattle.cc_node.specs.Core.{Core, quorum, asked_of, churned, churn_told, tells, asks_anew, anew_if, join_told, question_if, post_of_snapshot, post_to}
use Rattle.cc_node.specs.Core.{handled, next, post, replies, outputs, sends, send_post, send_ack, send_replies, live_links}
use Rattle.cc_node.specs.Node.{Node, step, after, IsLawful}
use Rattle.cc_node.proofs.ToldLaws.{anew_more}
use Rattle.cc_laws.specs.Rounds.{awaits_acks, lacks_one, ends_round}
use Rattle.cc_laws.proofs.Lists.{all_both, of_some, some_if, some_of, some_or, all_there, either}
use Rattle.cc_laws.proofs.RoundResults.{of_round, of_ack, of_reply, of_begun}

-- ---- tags

pub round_tag : (me quorum : ℕ) (a : Asked) (others : List Asked) (s : Ops) → (begin_round me quorum (a ∷ others) s).tag ≡ s.tag + 1
round_tag me quorum a others s = of_round (λ t. t.tag ≡ s.tag + 1) me quorum a others s (λ _. refl) (λ _. refl)

round_up : (me quorum : ℕ) (asks : List Asked) (s : Ops) → s.tag ≤ (begin_round me quorum asks s).tag
round_up me quorum [] s = omega arith
round_up me quorum (a ∷ others) s = omega (arith, round_tag me quorum a others s)

last_up : (me quorum : ℕ) (s : Ops) → s.tag ≤ (after_last me quorum s).tag
last_up me quorum s = round_up me quorum (first_round s.share s.line) (record s { line = line_behind s.share s.line })

ack_up : (me quorum : ℕ) (phase : Phase) (s : Ops) → s.tag ≤ (after_ack me quorum phase s).tag
ack_up me quorum (Storing p) s = of_ack (λ t. s.tag ≤ t.tag) me quorum p (Storing (counted p)) s (last_up me quorum s) (omega arith)
ack_up me quorum (StoringBack p seen) s =
    of_ack (λ t. s.tag ≤ t.tag) me quorum p (StoringBack (counted p) seen) s (last_up me quorum s) (omega arith)
ack_up me quorum _ s = omega arith

reply_up : (quorum : ℕ) (v : ViewMap) (phase : Phase) (s : Ops) → s.tag ≤ (after_reply quorum v phase s).tag
reply_up quorum v (Querying p) s = of_reply (λ t. s.tag ≤ t.tag) quorum v p s (omega arith) (omega arith)
reply_up quorum v _ s = omega arith

message_up : (me quorum : ℕ) (m : Message) (s : Ops) → s.tag ≤ (after_message me quorum m s).tag
message_up me quorum (message.QueryReply v tag q) s =
    either (λ (t : Ops). s.tag ≤ t.tag) (is_own me tag q s) (after_reply quorum v s.phase s) s (reply_up quorum v s.phase s) (omega arith)
message_up me quorum (message.StoreAck tag q) s =
    either (λ (t : Ops). s.tag ≤ t.tag) (is_own me tag q s) (after_ack me quorum s.phase s) s (ack_up me quorum s.phase s) (omega arith)
message_up me quorum _ s = omega arith

ask_up : (me quorum : ℕ) (a : Asked) (s : Ops) → s.tag ≤ (after_ask me quorum a s).tag
ask_up me quorum a s =
    either (λ (t : Ops). s.tag ≤ t.tag) (is_idle s.phase) (with_begun me quorum a s) (record s { line = s.line ++ a ∷ [] })
    (round_up me quorum (a ∷ []) s) (omega arith)

pub tag_next : (c : Core) (e : Event) → c.ops.tag ≤ (next c e).ops.tag
unfolding next
tag_next c (event.Deliver from n m) =
    let t = after_message c.me (quorum c) m c.ops in
    omega (arith, message_up c.me (quorum c) m c.ops, anew_more (asks_anew c from n m) (churn.quorum c.beta (churn_told c from n m)) t)
tag_next c (event.Ask s r command) = ask_up c.me (quorum c) (asked_of s r command) c.ops
tag_next c _ = omega arith

pub tag_after : (n : Node) (es : List Event) → IsLawful n es → n.core.ops.tag ≤ (after n es).core.ops.tag
unfolding step
tag_after n [] d = omega arith
tag_after n (e ∷ es) d = omega (arith, tag_next n.core e, tag_after (step n e) es d.1)

-- ---- posts

abbrev pub stored_in : ViewMap → Phase → ViewMap
stored_in view (StoringBack p seen) = seen
stored_in view _ = view

abbrev pub stored_of : Ops → ViewMap
stored_of s = stored_in s.view s.phase

-- the event brings this message
abbrev pub BringsIn : Event → Message → Type 0
BringsIn e m = (from n : ℕ) × (e ≡ event.Deliver from n m)

-- of a post that an event makes: the node, its tag before, and the rest after it
abbrev pub Says : ℕ → ℕ → Event → Ops → Message → Type 0
Says me under e t (message.Query tag q) = (q ≡ me) × (under < tag) × (tag ≡ t.tag)
Says me under e t (message.QueryReply v tag q) = BringsIn e (message.Query tag q) × (v ≡ t.view)
Says me under e t (message.Store v tag q) = (q ≡ me) × (under < tag) × (tag ≡ t.tag) × (v ≡ stored_of t)
Says me under e t (message.StoreAck tag q) = (v : ViewMap) × BringsIn e (message.Store v tag q) × IsAtMost v t.view
Says me under e t _ = ⊤

abbrev pub PostSays : Core → Event → Message → Type 0
PostSays c e m = Says c.me c.ops.tag e (next c e).ops m

first_says : (P : Message → Type 0) (me : ℕ) (a : Asked) (t : Ops) → P (message.Store t.view t.tag me) → P (message.Query t.tag me)
    → P (ops.first_post me a t)
first_says P me a t store query =
    cond_both (is_writing a.command) (message.Store t.view t.tag me) (message.Query t.tag me) P (λ _. store) (λ _. query)

round_stores : (me quorum : ℕ) (a : Asked) (others : List Asked) (s : Ops)
    → (begin_round me quorum (a ∷ others) s).view ≡ stored_of (begin_round me quorum (a ∷ others) s)
round_stores me quorum a others s = of_round (λ t. t.view ≡ stored_of t) me quorum a others s (λ _. refl) (λ _. refl)

-- what asks that begin are posted with, where they leave t
abbrev Posts : ℕ → Ops → Event → Ops → List Asked → Type 0
Posts me s e t asks = IfSome (ops.post_of_round me asks t) (Says me s.tag e t)

round_says : (me quorum : ℕ) (asks : List Asked) (s : Ops) (e : Event) → Posts me s e (begin_round me quorum asks s) asks
round_says me quorum [] s e = tt
round_says me quorum (a ∷ others) s e =
    let t = begin_round me quorum (a ∷ others) s in
    let new : s.tag < t.tag = omega (arith, round_tag me quorum a others s) in
    first_says (Says me s.tag e t) me a t (refl, new, refl, round_stores me quorum a others s) (refl, new, refl)

last_says : (me quorum : ℕ) (s : Ops) (e : Event) → Posts me s e (after_last me quorum s) (first_round s.share s.line)
last_says me quorum s e = round_says me quorum (first_round s.share s.line) (record s { line = line_behind s.share s.line }) e

ack_says : (me quorum : ℕ) (phase : Phase) (s : Ops) (e : Event) → Posts me s e (after_ack me quorum phase s) (begun_in phase s)
ack_says me quorum (Storing p) s e =
    of_begun (Posts me s e) (is_last p) (after_last me quorum s) (record s { phase = Storing (counted p) }) (first_round s.share s.line)
    (last_says me quorum s e) tt
ack_says me quorum (StoringBack p seen) s e =
    of_begun (Posts me s e) (is_last p) (after_last me quorum s) (record s { phase = StoringBack (counted p) seen }) (first_round s.share s.line)
    (last_says me quorum s e) tt
ack_says me quorum _ s e = tt

-- the last reply to a query begins the round that stores back
either_reply : (me : ℕ) (b : Bool) (v : ViewMap) (p : Pending) (other : Phase) (s : Ops) (e : Event)
    → (let t = if b then next_round (StoringBack p (merge s.view v)) (merged v s) else record (merged v s) { phase = other } in
    IfSome (then_some b (message.Store t.view t.tag me)) (Says me s.tag e t))
either_reply me true v p other s e = (refl, omega arith, refl, refl)
either_reply me false v p other s e = tt

back_says : (me quorum : ℕ) (v : ViewMap) (phase : Phase) (s : Ops) (e : Event)
    → IfSome (then_some (ends_query phase) (message.Store (after_reply quorum v phase s).view (after_reply quorum v phase s).tag me))
    (Says me s.tag e (after_reply quorum v phase s))
back_says me quorum v (Querying p) s e =
    either_reply me (is_last p) v (round_of quorum p.asked) (Querying (counted p)) s e
back_says me quorum v _ s e = tt

own_back_says : (me quorum : ℕ) (b : Bool) (v : ViewMap) (s : Ops) (e : Event)
    → (let t = if b then after_reply quorum v s.phase s else s in
    IfSome (then_some (b && ends_query s.phase) (message.Store t.view t.tag me)) (Says me s.tag e t))
own_back_says me quorum true v s e = back_says me quorum v s.phase s e
own_back_says me quorum false v s e = tt

ops_say : (me quorum : ℕ) (joined : Bool) (from n : ℕ) (m : Message) (s : Ops)
    → IfSome (ops.post_of me joined m s (after_message me quorum m s)) (Says me s.tag (event.Deliver from n m) (after_message me quorum m s))
ops_say me quorum joined from n (message.Query tag q) s =
    some_if (Says me s.tag (event.Deliver from n (message.Query tag q)) s) joined (message.QueryReply s.view tag q) ((from, n, refl), refl)
ops_say me quorum joined from n (message.QueryReply v tag q) s =
    own_back_says me quorum (is_own me tag q s) v s (event.Deliver from n (message.QueryReply v tag q))
ops_say me quorum joined from n (message.Store v tag q) s =
    some_if (Says me s.tag (event.Deliver from n (message.Store v tag q)) (merged v s)) joined (message.StoreAck tag q)
    (v, (from, n, refl), merged_at_most s.view v)
ops_say me quorum joined from n (message.StoreAck tag q) s =
    let e = event.Deliver from n (message.StoreAck tag q) in
    of_begun (Posts me s e) (is_own me tag q s) (after_ack me quorum s.phase s) s (begun_in s.phase s) (ack_says me quorum s.phase s e) tt
ops_say me quorum joined from n _ s = tt

churn_says : (me under : ℕ) (view : ViewMap) (e : Event) (m : Message) (s t : churn.Churn) (after : Ops)
    → IfSome (churn.post_of me view m s t) (Says me under e after)
churn_says me under view e (message.EnterEcho c w j q) s t after = some_if (Says me under e after) _ (message.Join me) tt
churn_says me under view e _ s t after = tt

-- what a message is answered with, but for a snapshot
answer_says : (c : Core) (from n : ℕ) (m : Message) → IfSome (post_to m c (handled c (event.Deliver from n m))) (PostSays c (event.Deliver from n m))
unfolding next
answer_says c from n (message.Snapshot d v) = tt
answer_says c from n m =
    let d = handled c (event.Deliver from n m) in
    let joined = churn.has_joined c.me d.churn in
    some_or (PostSays c (event.Deliver from n m)) (churn.post_of c.me d.ops.view m c.churn d.churn) (ops.post_of c.me joined m c.ops d.ops)
    (churn_says c.me c.ops.tag d.ops.view (event.Deliver from n m) m c.churn d.churn d.ops) (ops_say c.me (quorum c) joined from n m c.ops)

-- a phase that begins anew asks under its new tag, and stores what it stored
anew_says : (e : Event) (me under quorum : ℕ) (s : Ops) (phase : Phase) → under ≤ s.tag
    → IfSome (ops.question_in me s.view (s.tag + 1) (ops.again quorum phase)) (Says me under e (next_round (ops.again quorum phase) s))
anew_says e me under quorum s Idle le = tt
anew_says e me under quorum s (Querying p) le = (refl, omega (arith, le), refl)
anew_says e me under quorum s _ le = (refl, omega (arith, le), refl, refl)

question_says : (e : Event) (me under quorum : ℕ) (b : Bool) (s : Ops) → under ≤ s.tag
    → IfSome (question_if b me quorum s) (Says me under e (anew_if b quorum s))
question_says e me under quorum true s le = anew_says e me under quorum s s.phase le
question_says e me under quorum false s le = tt

snapshot_says : (c : Core) (from n : ℕ) (m : Message) → IfSome (post_of_snapshot c from n m) (PostSays c (event.Deliver from n m))
unfolding next
snapshot_says c from n m =
    let e = event.Deliver from n m in
    let b = asks_anew c from n m in
    let need = churn.quorum c.beta (churn_told c from n m) in
    let t = after_message c.me (quorum c) m c.ops in
    some_or (PostSays c e) (join_told c from n m) (question_if b c.me need t)
    (some_of (PostSays c e) (tells c from n m) (churn.join_told c.me c.gamma (churned c m)) None
    (some_if (PostSays c e) (churn.joins_told c.gamma (churned c m)) (message.Join c.me) tt) tt)
    (question_says e c.me c.ops.tag need b t (message_up c.me (quorum c) m c.ops))

pub post_says : (c : Core) (e : Event) → IfSome (post c e) (PostSays c e)
unfolding next
post_says c (event.Deliver from n m) =
    some_or (PostSays c (event.Deliver from n m)) (post_of_snapshot c from n m) (post_to m c (handled c (event.Deliver from n m)))
    (snapshot_says c from n m) (answer_says c from n m)
post_says c (event.Ask s r command) =
    let e = event.Ask s r command in
    let a = asked_of s r command in
    of_begun (Posts c.me c.ops e) (is_idle c.ops.phase) (with_begun c.me (quorum c) a c.ops) (record c.ops { line = c.ops.line ++ a ∷ [] }) (a ∷ [])
    (round_says c.me (quorum c) (a ∷ []) c.ops e) tt
post_says c _ = tt

-- ---- replies

-- what one of these asks is answered, read from that view
abbrev pub TellsOne : ViewMap → List Asked → Reply → Type 0
TellsOne seen asks r = (a : Asked) × Contains asks a × (r ≡ told seen a)

abbrev pub Told : ViewMap → List Asked → Phase → Reply → Type 0
Told view others (Storing p) r = TellsOne view (p.asked ∷ others) r
Told view others (StoringBack p seen) r = TellsOne seen (p.asked ∷ others) r
Told view others _ r = ⊥

abbrev pub TellsOf : Ops → Reply → Type 0
TellsOf s r = Told s.view s.others s.phase r

abbrev pub ReplySays : Core → Event → Reply → Type 0
ReplySays c e r = (ends_round c e ≡ true) × TellsOf c.ops r

each_told : (seen : ViewMap) (all asks : List Asked) → AllByRecursion (Contains all) asks
    → AllByRecursion (λ r. (true ≡ true) × TellsOne seen all r) (map (told seen) asks)
each_told seen all [] h = tt
each_told seen all (a ∷ asks) h = ((refl, (a, h.0, refl)), each_told seen all asks h.1)

last_replies : (b : Bool) (seen : ViewMap) (asks : List Asked)
    → AllByRecursion (λ r. (b ≡ true) × TellsOne seen asks r) (if b then map (told seen) asks else [])
last_replies true seen asks = each_told seen asks asks (all_there (Contains asks) asks (λ _ has. has))
last_replies false seen asks = tt

ack_replies : (b : Bool) (view : ViewMap) (others : List Asked) (phase : Phase)
    → AllByRecursion (λ r. (((b && awaits_acks phase) && lacks_one phase) ≡ true) × Told view others phase r) (if b then replies_in view others phase else [])
ack_replies true view others Idle = tt
ack_replies true view others (Storing p) = last_replies (is_last p) view (p.asked ∷ others)
ack_replies true view others (Querying p) = tt
ack_replies true view others (StoringBack p seen) = last_replies (is_last p) seen (p.asked ∷ others)
ack_replies false view others phase = tt

message_replies : (c : Core) (from n : ℕ) (m : Message) → AllByRecursion (ReplySays c (event.Deliver from n m)) (ops.replies_of c.me m c.ops)
message_replies c from n (message.StoreAck tag q) = ack_replies (is_own c.me tag q c.ops) c.ops.view c.ops.others c.ops.phase
message_replies c from n _ = tt

pub each_says : (c : Core) (e : Event) → AllByRecursion (ReplySays c e) (replies c e)
each_says c (event.Deliver from n m) = message_replies c from n m
each_says c _ = tt

-- ---- outputs

-- where a post goes, and under which number
abbrev pub GoesTo : Core → ℕ → ℕ → Type 0
GoesTo c to n = (l : Link) × (table.get (live_links c) to ≡ Some l) × (n ≡ c.posts - l.start)

abbrev pub OutputSays : Core → Event → Output → Type 0
OutputSays c e (output.Send to n m) = (post c e ≡ Some m) × GoesTo (next c e) to n
OutputSays c e (output.Ack to n) = ⊤
OutputSays c e (output.Reply s r a) = Contains (replies c e) (record { session = s; request = r; answer = a })

each_send : (P : Output → Type 0) (k : ℕ) (m : Message) (rows : List (ℕ × Link)) → AllByRecursion (λ row. P (output.Send row.0 (k - row.1.start) m)) rows
    → AllByRecursion P (sends k m rows)
each_send P k m [] h = tt
each_send P k m (row ∷ rows) h = (h.0, each_send P k m rows h.1)

posts_say : (c : Core) (e : Event) (p : Option Message) → post c e ≡ p → AllByRecursion (OutputSays c e) (send_post (next c e) p)
posts_say c e None is = tt
posts_say c e (Some m) is =
    let d = next c e in
    let rows = table.entries (live_links d) in
    let Says = λ (to : ℕ) (l : Link). OutputSays c e (output.Send to (d.posts - l.start) m) in
    each_send (OutputSays c e) d.posts m rows (all_entries Says rows (table.entries_sorted (live_links d))
    (λ to. subst (λ o. IfSome o (Says to)) (table.get-entries (live_links d) to)
    (of_some (Says to) (table.get (live_links d) to) (λ l there. (is, (l, there, refl))))))

acks_say : (c : Core) (e : Event) (a : Option LinkAck) → AllByRecursion (OutputSays c e) (send_ack a)
acks_say c e None = tt
acks_say c e (Some a) = (tt, tt)

replies_say : (c : Core) (e : Event) (rs : List Reply) → AllByRecursion (Contains (replies c e)) rs → AllByRecursion (OutputSays c e) (send_replies rs)
replies_say c e [] h = tt
replies_say c e (r ∷ rs) h = (h.0, replies_say c e rs h.1)

pub outputs_say : (c : Core) (e : Event) → AllByRecursion (OutputSays c e) (outputs c e)
outputs_say c e =
    all_both (OutputSays c e) (send_ack (core.ack e) ++ send_post (next c e) (post c e)) (send_replies (replies c e))
    (all_both (OutputSays c e) (send_ack (core.ack e)) (send_post (next c e) (post c e)) (acks_say c e (core.ack e)) (posts_say c e (post c e) refl))
    (replies_say c e (replies c e) (all_there (Contains (replies c e)) (replies c e) (λ _ has. has)))
