-- The laws of orders.
--     safe_methods, other_pages, client_keys, bounded_times
use Rattle.std.proofs.Common.{◌≡◌, ◌⊎◌, inl, inr, ℕ, ◌+◌, ◌≤◌, ◌==◌, ◌&&◌, ◌||◌, not, Bool, true, false, cond, List, length, drop, Option, Some, None, Ok, Err, refl, sym, ap, subst, ◌∙◌, codes, arith, nat_lt, nat_le}
use Rattle.std.specs.List.{before_first}
use Rattle.std.specs.Option.{option_copied, option_and_then}
use Rattle.std.proofs.lemmas.Bool.{and_parts, cond_both, false≢true, not-true, ltb-true, leb-true, eqb-false}
use Rattle.std.proofs.lemmas.Slice.Eq.{bytes_eq-Decides}
use Rattle.cc_messages.specs.declared.command.Command.{Command}
use Rattle.cc_web.specs.Bodies.{written_in}
use Rattle.cc_web.specs.Calls.{call_of, reading_of, putting_of, posting_of, is_write, is_one_ask}
use Rattle.cc_web.specs.Keys.{is_own, key_of, key_spelled, allowed_key, key_in}
use Rattle.cc_web.specs.OrderLaws.{stores, changes, is_ask, SafeMethodsChangeNothing, OtherPagesChangeNothing, KeysAreTheClients, TimesAreBounded}
use Rattle.cc_web.specs.Orders.{task_of}
use Rattle.cc_web.specs.Timeouts.{usual_timeout, most_timeout, duration_in, allowed_timeout, timeout_in}
use Rattle.cc_web.specs.Words.{is_text, behind, number_in}
use Rattle.cc_web.specs.declared.call.Call.{Call}
use Rattle.cc_web.specs.declared.call.Call.TheVariants as call
use Rattle.cc_web.specs.declared.fault.WebFault.{WebFault}
use Rattle.cc_web.specs.declared.fault.WebFault.TheVariants as fault
use Rattle.cc_web.specs.declared.key.AskKey.{AskKey}
use Rattle.cc_web.specs.declared.order.Task.{Task}
use Rattle.cc_web.specs.declared.order.Task.TheVariants as task
use Rattle.cc_web.specs.declared.place.Place.{Place}
use Rattle.cc_web.specs.declared.place.Place.TheVariants as place
use Rattle.cc_web.specs.declared.request.WebRequest.{WebRequest}
use Rattle.cc_web.proofs.OrderSteps.{okay, ok_is, first_step, from_allowed, foreign, task_in, html_in, known_to, steps}

-- a test that passed
kept : {A : Type 0} (b : Bool) (a x : A) (why : WebFault) → cond b (okay a) (Err why) ≡ Ok x → (b ≡ true) × (a ≡ x)
kept true a x why e = (refl, ok_is a x e)
kept false a x why e = absurd (cc)

-- ---- calls

is_writing : Option Call → Bool
is_writing (Some c) = is_write c
is_writing None = false

-- what it reads, if it reads, stores nothing
is_harmless : Option Call → Bool
is_harmless (Some (call.Read c)) = not (stores c)
is_harmless _ = true

abbrev by_options : Place → List ℕ → Bool → Option Call
by_options p m a = cond (is_text (codes "OPTIONS") m && a) (Some (call.Preflight p)) None

abbrev by_post : Place → List ℕ → Bool → Option Call
by_post p m a = cond (is_text (codes "POST") m) (posting_of p) (by_options p m a)

abbrev by_put : Place → List ℕ → Bool → Option Call
by_put p m a = cond (is_text (codes "PUT") m) (putting_of p) (by_post p m a)

by_method : (P : Option Call → Type 0) (p : Place) (m : List ℕ) (a : Bool) → P (reading_of p) → (m ≡ codes "PUT" → P (putting_of p))
    → (m ≡ codes "POST" → P (posting_of p)) → P (Some (call.Preflight p)) → P None → P (call_of p m a)
unfolding call_of
by_method P p m a read put post preflight nothing =
    cond_both (is_text (codes "GET") m || is_text (codes "HEAD") m) (reading_of p) (by_put p m a) P (λ _. read) (λ _.
    cond_both (is_text (codes "PUT") m) (putting_of p) (by_post p m a) P (λ is. put ((bytes_eq-Decides m (codes "PUT")).0 is)) (λ _.
    cond_both (is_text (codes "POST") m) (posting_of p) (by_options p m a) P (λ is. post ((bytes_eq-Decides m (codes "POST")).0 is)) (λ _.
    cond_both (is_text (codes "OPTIONS") m && a) (Some (call.Preflight p)) None P (λ _. preflight) (λ _. nothing))))

reads : (p : Place) → (is_harmless (reading_of p) ≡ true) × (is_writing (reading_of p) ≡ false)
unfolding is_harmless is_writing
reads place.Overview = (refl, refl)
reads place.Text = (refl, refl)
reads place.Max = (refl, refl)
reads place.Flag = (refl, refl)
reads place.Set = (refl, refl)
reads place.View = (refl, refl)
reads place.Snapshot = (refl, refl)
reads place.Changes = (refl, refl)
reads (place.Session session) = (refl, refl)

puts : (p : Place) → is_harmless (putting_of p) ≡ true
unfolding is_harmless
puts place.Overview = refl
puts place.Text = refl
puts place.Max = refl
puts place.Flag = refl
puts place.Set = refl
puts place.View = refl
puts place.Snapshot = refl
puts place.Changes = refl
puts (place.Session session) = refl

posts : (p : Place) → is_harmless (posting_of p) ≡ true
unfolding is_harmless
posts place.Overview = refl
posts place.Text = refl
posts place.Max = refl
posts place.Flag = refl
posts place.Set = refl
posts place.View = refl
posts place.Snapshot = refl
posts place.Changes = refl
posts (place.Session session) = refl

harmless : (p : Place) (m : List ℕ) (a : Bool) → is_harmless (call_of p m a) ≡ true
unfolding is_harmless
harmless p m a = by_method (λ o. is_harmless o ≡ true) p m a (reads p).0 (λ _. puts p) (λ _. posts p) refl refl

written : (p : Place) (m : List ℕ) (a : Bool) → is_writing (call_of p m a) ≡ true → (m ≡ codes "PUT") ⊎ (m ≡ codes "POST")
unfolding is_writing
written p m a = by_method (λ o. is_writing o ≡ true → (m ≡ codes "PUT") ⊎ (m ≡ codes "POST")) p m a
    (λ e. absurd (false≢true (sym (reads p).1 ∙ e))) (λ is _. inl is) (λ is _. inr is) (λ e. absurd (false≢true e)) (λ e. absurd (false≢true e))

-- ---- tasks

unchanged : (b : Bool) (t w : Task) (why : WebFault) → cond b (okay t) (Err why) ≡ Ok w → changes t ≡ false → changes w ≡ true → ⊥
unchanged b t w why e never does = false≢true (sym never ∙ ap changes (kept b t w why e).1 ∙ does)

-- where a task changes something, its call writes
changing : (c : Call) (q : WebRequest) (w : Task) → is_harmless (Some c) ≡ true → task_in q c ≡ Ok w → changes w ≡ true → is_write c ≡ true
unfolding is_harmless task_of
changing (call.Write what) q w safe e does = refl
changing call.Overview q w safe e does = absurd (unchanged (length q.body.now == 0) (task.Overview (html_in q)) w fault.TooLong e refl does)
changing (call.LastRequest session) q w safe e does = absurd (unchanged (length q.body.now == 0) (task.LastRequest session) w fault.TooLong e refl does)
changing call.Snapshot q w safe e does = absurd (unchanged (length q.body.now == 0) task.Snapshot w fault.TooLong e refl does)
changing call.Changes q w safe e does = absurd (unchanged (length q.body.now == 0) (task.Changes (known_to q)) w fault.TooLong e refl does)
changing (call.Read c) q w safe e does = absurd (unchanged (length q.body.now == 0) (task.Ask c) w fault.TooLong e (not-true (stores c) safe) does)
changing (call.Preflight p) q w safe e does = absurd (unchanged (length q.body.now == 0) (task.Preflight p) w fault.TooLong e refl does)

asking : (c : Call) (q : WebRequest) (w : Task) → is_one_ask c ≡ true → task_in q c ≡ Ok w → is_ask w ≡ true
unfolding task_of
asking (call.Write what) q w one e =
    let s = first_step (written_in what q.body.now) (λ (c : Command). okay (task.Ask c)) w e in
    ap is_ask (sym (ok_is (task.Ask s.0) w s.2))
asking call.Overview q w one e = absurd (false≢true one)
asking (call.LastRequest session) q w one e = absurd (false≢true one)
asking call.Snapshot q w one e = absurd (false≢true one)
asking call.Changes q w one e = absurd (false≢true one)
asking (call.Read c) q w one e = ap is_ask (sym (kept (length q.body.now == 0) (task.Ask c) w fault.TooLong e).1)
asking (call.Preflight p) q w one e = absurd (false≢true one)

-- ---- keys

some_is : {A : Type 0} (a b : A) → Some a ≡ Some b → a ≡ b
some_is a b e = cc

some_step : {A B : Type 0} (f : A → Option B) (o : Option A) (b : B) → option_and_then f o ≡ Some b → (a : A) × (o ≡ Some a) × (f a ≡ Some b)
some_step f (Some a) b e = (a, refl, e)
some_step f None b e = absurd (cc)

unless : {A : Type 0} (b : Bool) (o : Option A) (a : A) → cond b None o ≡ Some a → (b ≡ false) × (o ≡ Some a)
unless true o a e = absurd (cc)
unless false o a e = (refl, e)

neither : (a b : Bool) → (a || b) ≡ false → (a ≡ false) × (b ≡ false)
neither true b e = absurd (false≢true (sym e))
neither false b e = (refl, e)

numbered : (session request : ℕ) (key : AskKey) → key_of session request ≡ Some key → (1 ≤ key.session) × (1 ≤ key.request)
numbered session request key e =
    let made : AskKey = record { session = session; request = request } in
    let u = unless ((session == 0) || (request == 0)) (Some made) key e in
    let n = neither (session == 0) (request == 0) u.0 in
    subst (λ (k : AskKey). (1 ≤ k.session) × (1 ≤ k.request)) (some_is made key u.1)
    (omega (arith, eqb-false session 0 n.0), omega (arith, eqb-false request 0 n.1))

spelled : (word : List ℕ) (key : AskKey) → key_spelled word ≡ Some key → (1 ≤ key.session) × (1 ≤ key.request)
spelled word key e =
    let front = before_first (λ b. b == 47) word in
    let rest = number_in 64 (drop (length front + 1) word) in
    let u = unless (length front == length word) (option_and_then (λ (session : ℕ). option_and_then (key_of session) rest) (number_in 64 front)) key e in
    let s = some_step (λ (session : ℕ). option_and_then (key_of session) rest) (number_in 64 front) key u.1 in
    let r = some_step (key_of s.0) rest key s.2 in
    numbered s.0 r.0 key r.2

not_own : (b : Bool) (k key : AskKey) → cond b (Err fault.OwnSession) (okay (Some k)) ≡ Ok (Some key) → (b ≡ false) × (k ≡ key)
not_own true k key e = absurd (cc)
not_own false k key e = (refl, some_is k key (ok_is (Some k) (Some key) e))

allowed : (own : ℕ) (o : Option AskKey) (key : AskKey) → allowed_key own o ≡ Ok (Some key) → (o ≡ Some key) × (is_own key.session own ≡ false)
allowed own None key e = absurd (cc)
allowed own (Some k) key e =
    let n = not_own (is_own k.session own) k key e in
    (ap Some n.1, subst (λ (x : AskKey). is_own x.session own ≡ false) n.1 n.0)

keyed : (field : Option (List ℕ)) (own : ℕ) (one : Bool) (key : AskKey) → key_in field own one ≡ Ok (Some key)
    → (1 ≤ key.session) × (1 ≤ key.request) × (is_own key.session own ≡ false) × (one ≡ true)
unfolding key_in
keyed None own one key e = absurd (cc)
keyed (Some word) own false key e = absurd (cc)
keyed (Some word) own true key e =
    let a = allowed own (key_spelled word) key e in
    let n = spelled word key a.0 in
    (n.0, n.1, a.1, refl)

-- ---- times

within : (o : Option ℕ) (t : ℕ) → allowed_timeout o ≡ Ok t → (1 ≤ t) × (t ≤ most_timeout)
within None t e = absurd (cc)
within (Some millis) t e =
    let k = kept (nat_lt 0 millis && nat_le millis most_timeout) millis t fault.Query e in
    let p = and_parts (nat_lt 0 millis) (nat_le millis most_timeout) k.0 in
    let low = ltb-true 0 millis p.0 in
    let high = leb-true millis most_timeout p.1 in
    (omega (arith, k.1, low), omega (arith, k.1, high))

bounded : (query : Option (List ℕ)) (t : ℕ) → timeout_in query ≡ Ok t → (1 ≤ t) × (t ≤ most_timeout)
unfolding timeout_in
bounded None t e = let same = ok_is usual_timeout t e in (omega (arith, same), omega (arith, same))
bounded (Some query) t e = within (option_and_then duration_in (behind (codes "timeout=") query)) t e

-- ---- the laws

either : (w a f : Bool) → w ≡ true → (w && not a && f) ≡ false → (a ≡ true) ⊎ (f ≡ false)
either true true f is e = inl refl
either true false f is e = inr e
either false a f is e = absurd (false≢true is)

pub safe_methods : SafeMethodsChangeNothing
unfolding is_writing
safe_methods s q order e does =
    let t = steps s q order e in
    let safe = subst (λ (o : Option Call). is_harmless o ≡ true) t.is_call (harmless t.place q.method.now (from_allowed s q)) in
    written t.place q.method.now (from_allowed s q) (ap is_writing t.is_call ∙ changing t.call q order.task safe t.task does)

pub other_pages : OtherPagesChangeNothing
other_pages s q order e does =
    let t = steps s q order e in
    let safe = subst (λ (o : Option Call). is_harmless o ≡ true) t.is_call (harmless t.place q.method.now (from_allowed s q)) in
    either (is_write t.call) (from_allowed s q) (foreign q) (changing t.call q order.task safe t.task does) t.origin

pub client_keys : KeysAreTheClients
client_keys s q order key e is =
    let t = steps s q order e in
    let k = keyed (option_copied q.idempotency_key) s.own_sessions (is_one_ask t.call) key (t.key ∙ ap (λ (k : Option AskKey). okay k) is) in
    record { session = k.0; request = k.1; other = k.2; one = asking t.call q order.task k.3 t.task }

pub bounded_times : TimesAreBounded
bounded_times s q order e = bounded (option_copied q.query) order.timeout_ms (steps s q order e).timeout
