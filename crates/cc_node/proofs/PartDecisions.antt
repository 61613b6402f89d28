-- What the parts' decisions say of an event, and which counters it would raise.
--     of_enter, of_entered, of_member, of_retire     by which coming and going refuse an event
--     of_number, of_request                          by which the number of a delivery and of a request do
--     err_there, ok_later, err_then, ok_then         reasons, one list after the other
--     first_holds, first_passes                      a reason, and those behind it
--     post_either, makes_either, post_told           whether a message is answered with a post
--     spent_enter, ..                                which counters an event would raise
--     ack_refused, number_after, next_request        what is known where some reasons don't hold
use Rattle.std.proofs.Common.{◌≡◌, ℕ, ◌+◌, ◌<◌, ◌≤◌, ◌⊎◌, Bool, true, false, ◌&&◌, ◌||◌, nat_lt, nat_le, List, [], ◌∷◌, ◌++◌, refl, sym, ap, ◌∙◌, inl}
use Rattle.std.proofs.Common.{inr, arith}
use Rattle.std.specs.Prelude.{Option, Some, None, Result, Ok, Err, IsErrAnd, is_some, option_map, ◌==◌, if◌then◌else◌}
use Rattle.std.specs.Option.{option_len, option_or}
use Rattle.std.specs.Bool.{then_some}
use Rattle.std.proofs.lemmas.Bool.Decides.{eqb_tells}
use Rattle.std.proofs.Math.Bool.{and-true, or-false}
use Rattle.std.proofs.lemmas.Bool.{leb-false, ltb-false, lt-ltb, le-ltb, or_parts, and_parts, and_left, and_right, not-true}
use Rattle.cc_views.specs.Limits.{counter_limit, overruns}
use Rattle.cc_ops.specs.Refusals.{passes}
use Rattle.cc_views.specs.Rows.{ViewMap}
use Rattle.cc_changes.specs.declared.fraction.Fraction.{Fraction}
use Rattle.cc_messages.specs.Messages.{is_snapshot}
use Rattle.cc_messages.specs.Ranges.{Range}
use Rattle.cc_messages.specs.Shares.{IsAskShare}
use Rattle.cc_messages.specs.ShareLaws.{share_is}
use Rattle.cc_messages.specs.declared.event.Event.TheVariants as event
use Rattle.cc_messages.specs.declared.message.Message.{Message}
use Rattle.cc_messages.specs.declared.message.Message.TheVariants as message
use Rattle.cc_messages.specs.declared.refusal.Refusal.{Refusal}
use Rattle.cc_messages.specs.declared.refusal.Refusal.TheVariants as refusal
use Rattle.cc_messages.specs.Refusals.{first_of, decided}
use Rattle.cc_churn.specs.Churn as churn
use Rattle.cc_ops.specs.Ops as ops
use Rattle.cc_ops.specs.declared.pending_operation.Asked.{Asked}
use Rattle.cc_ops.specs.WaitingAsks.{first_in}
use Rattle.cc_links.specs.Links.{heard_from}
use Rattle.cc_sessions.specs.Sessions.{last_request, is_stale, is_skip, is_repeat, finds_no_room}
use Rattle.cc_messages.specs.declared.command.Command.{Command}
use Rattle.cc_node.specs.Core.{Core, asked_of, churned, tells, told_if, churn_told, join_told, asks_anew, anew_if, ops_anew, question_if}
use Rattle.cc_node.specs.Core.{post_of_snapshot, handled, next, post, quorum}
use Rattle.cc_node.specs.Refusals.{any_overruns, spent, decides, decides_within, left, has_gone, not_entered, already_entered, not_joined, old, gap}
use Rattle.cc_node.specs.Refusals.{gap_before, nothing_to_ack, too_many_sessions, repeat, stale, skip, same_share, busy_beyond}
use Rattle.cc_node.proofs.LawfulLaws.{hears_now, hears_skip, request_now}
use Rattle.cc_node.proofs.ToldLaws.{snapshot_tag, snapshot_number, snapshot_echoes, anew_number, anew_one, told_one, not_told, not_anew}

-- ---- reasons, one list after the other

-- by which coming and going refuse an event
abbrev pub of_enter : Core → List (Option Refusal)
of_enter c = left c ∷ already_entered c ∷ []

abbrev pub of_entered : Core → List (Option Refusal)
of_entered c = left c ∷ not_entered c ∷ []

abbrev pub of_member : Core → List (Option Refusal)
of_member c = left c ∷ not_entered c ∷ not_joined c ∷ []

abbrev pub of_retire : ℕ → Core → List (Option Refusal)
of_retire q c = left c ∷ has_gone c q ∷ not_entered c ∷ []

-- by which the number of a delivery does, and that of a request
abbrev pub of_number : Core → ℕ → ℕ → Message → List (Option Refusal)
of_number c from n m = old c from n ∷ gap c from n m ∷ []

-- by which the operations refuse another share
abbrev pub of_share : ℕ → Core → List (Option Refusal)
of_share share c = same_share share c ∷ busy_beyond share c ∷ []

-- by which the numbers that are skipped do
abbrev pub of_range : Core → ℕ → Range → List (Option Refusal)
of_range c from posts = old c from posts.last ∷ gap_before c from posts.first ∷ []

abbrev pub of_request : Core → ℕ → ℕ → List (Option Refusal)
of_request c s r = too_many_sessions c s ∷ repeat c s r ∷ stale c s r ∷ skip c s r ∷ []

-- a refusal for the first reasons is the refusal, and `?` hands it on
pub err_there : (xs ys : List (Option Refusal)) (r : Refusal) (d : Result (Unit {0}) Refusal) → IsErrAnd d (λ e. e ≡ r) → decided (first_of xs) ≡ Err r
    → d ≡ decided (first_of (xs ++ ys))
err_there [] ys r d e h = cc
err_there (None ∷ xs) ys r d e h = err_there xs ys r d e h
err_there (Some s ∷ xs) ys r (Ok x) e h = absurd e
err_there (Some s ∷ xs) ys r (Err q) e h = cc

-- where the first reasons refuse nothing, the others decide
pub ok_later : (xs ys : List (Option Refusal)) → decided (first_of xs) ≡ Ok tt → decided (first_of ys) ≡ decided (first_of (xs ++ ys))
ok_later [] ys h = refl
ok_later (None ∷ xs) ys h = ok_later xs ys h
ok_later (Some s ∷ xs) ys h = cc

-- so it is where a part looked at the first ones, of a copy of the core
pub err_then : {c s : Core} (xs : Core → List (Option Refusal)) (ys : List (Option Refusal)) (o : Result (Unit {0}) Refusal) {r : Refusal} → c ≡ s
    → o ≡ decided (first_of (xs c)) → o ≡ Err r → (d : Result (Unit {0}) Refusal) → IsErrAnd d (λ e. e ≡ r) → d ≡ decided (first_of (xs s ++ ys))
err_then {c} {s} xs ys o {r} is looked was d e = err_there (xs s) ys r d e (sym (looked ∙ ap (λ (k : Core). decided (first_of (xs k))) is) ∙ was)

pub ok_then : {c s : Core} (xs : Core → List (Option Refusal)) (ys : List (Option Refusal)) (o : Result (Unit {0}) Refusal) → c ≡ s
    → o ≡ decided (first_of (xs c)) → o ≡ Ok tt → decided (first_of ys) ≡ decided (first_of (xs s ++ ys))
ok_then {c} {s} xs ys o is looked was = ok_later (xs s) ys (sym (looked ∙ ap (λ (k : Core). decided (first_of (xs k))) is) ∙ was)

-- what refuses nothing has no reason
pub ok_none : (o : Option Refusal) → decided o ≡ Ok tt → o ≡ None
ok_none None h = refl
ok_none (Some r) h = cc

-- a reason that holds is the first
pub first_holds : (b : Bool) (r : Refusal) (o : Option Refusal) (rs : List (Option Refusal)) → then_some b r ≡ o → b ≡ true
    → Err r ≡ decided (first_of (o ∷ rs))
first_holds true r o rs e h = ap (λ x. decided (first_of (x ∷ rs))) e
first_holds false r o rs e h = cc

-- one that doesn't is passed over
pub first_passes : (b : Bool) (r : Refusal) (o : Option Refusal) (rs : List (Option Refusal)) → then_some b r ≡ o → b ≡ false
    → decided (first_of rs) ≡ decided (first_of (o ∷ rs))
first_passes true r o rs e h = cc
first_passes false r o rs e h = ap (λ x. decided (first_of (x ∷ rs))) e

-- ---- counters

pub stays : (n : ℕ) → overruns n n ≡ false
stays n = and_right (n == counter_limit) (nat_lt n n) (le-ltb n n (omega arith))

pub stays_at : (n m : ℕ) → m ≡ n → overruns n m ≡ false
stays_at n m e = ap (overruns n) e ∙ stays n

-- so it is with the own number
pub passes_none : (n : ℕ) → passes n n ≡ false
passes_none n = and_left (nat_lt n n) (nat_lt counter_limit n) (le-ltb n n (omega arith))

pub passes_at : (n m : ℕ) → m ≡ n → passes n m ≡ false
passes_at n m e = ap (passes n) e ∙ passes_none n

pub rises : (n : ℕ) → overruns n (n + 1) ≡ (n == counter_limit)
rises n = ap (λ b. (n == counter_limit) && b) (lt-ltb n (n + 1) (omega arith)) ∙ and-true (n == counter_limit)

pub rises_with : {X : Type 0} (n : ℕ) (o : Option X) → overruns n (n + option_len o) ≡ (is_some o && (n == counter_limit))
rises_with n None = stays_at n (n + 0) (omega arith)
rises_with n (Some x) = rises n

any_of : (a b c d e a' b' c' d' e' : Bool) → a ≡ a' → b ≡ b' → c ≡ c' → d ≡ d' → e ≡ e' → (a || b || c || d || e) ≡ (a' || b' || c' || d' || e')
any_of a b c d e a' b' c' d' e' p q r s t = rw (p, q, r, s, t) refl

-- ---- whether a message is answered with a post

is_some_or : {X : Type 0} (a b : Option X) → is_some (option_or a b) ≡ (is_some a || is_some b)
is_some_or None b = refl
is_some_or (Some x) b = refl

pub or_there : (r a b : Bool) → r ≡ a → r ≡ true → r ≡ (a || b)
or_there r true b e h = h
or_there r false b e h = cc

abbrev pub echoed : Core → Message → Option Message
echoed c m = churn.post_of c.me c.ops.view m c.churn (churn.after_message c.me c.gamma m c.churn)

abbrev pub served : Core → Message → Option Message
served c m = ops.post_of c.me (churn.has_joined c.me c.churn) m c.ops (ops.after_message c.me (quorum c) m c.ops)

-- only an Enter is answered with the view, which it leaves; only messages that leave the changes ask whether the node
-- has joined
pub post_either : (c : Core) (from n : ℕ) (m : Message) → is_snapshot m ≡ false
    → post c (event.Deliver from n m) ≡ option_or (echoed c m) (served c m)
post_either c from n (message.Snapshot d v) e = cc
post_either c from n _ e = refl

pub makes_either : (c : Core) (from n : ℕ) (m : Message) → is_snapshot m ≡ false
    → is_some (post c (event.Deliver from n m)) ≡ (is_some (echoed c m) || is_some (served c m))
makes_either c from n m e = ap is_some (post_either c from n m e) ∙ is_some_or (echoed c m) (served c m)

-- a snapshot is answered for what it tells, and for a phase that begins anew
or_none : {X : Type 0} (o : Option X) → option_or o None ≡ o
or_none None = refl
or_none (Some x) = refl

pub post_told : (c : Core) (from n : ℕ) (m : Message) → is_snapshot m ≡ true → post c (event.Deliver from n m) ≡ post_of_snapshot c from n m
post_told c from n (message.Snapshot d v) e = or_none (post_of_snapshot c from n (message.Snapshot d v))
post_told c from n _ e = cc

none_there : {X : Type 0} (o : Option X) → is_some o ≡ false → o ≡ None
none_there None e = refl
none_there (Some x) e = cc

-- what the phase asks that begins anew, if one does
abbrev pub asked_anew : Core → ℕ → ℕ → Message → Option Message
asked_anew c from n m =
    question_if (asks_anew c from n m) c.me (churn.quorum c.beta (churn_told c from n m)) (ops.after_message c.me (quorum c) m c.ops)

-- it is asked where the node doesn't join
pub only_question : (c : Core) (from n : ℕ) (m : Message) → is_some (join_told c from n m) ≡ false → asked_anew c from n m ≡ post_of_snapshot c from n m
only_question c from n m none = sym (ap (λ o. option_or o (asked_anew c from n m)) (none_there (join_told c from n m) none))

some_join : (b : Bool) (me : ℕ) (gamma : Fraction) (s : churn.Churn)
    → is_some (if b then churn.join_told me gamma s else None) ≡ (b && churn.joins_told gamma s)
some_join true me gamma s = one_if (churn.joins_told gamma s) (message.Join me)
  where
    one_if : {X : Type 0} (b : Bool) (x : X) → is_some (then_some b x) ≡ b
    one_if true x = refl
    one_if false x = refl
some_join false me gamma s = refl

asks_some : (me : ℕ) (view : ViewMap) (tag quorum : ℕ) (p : ops.Phase) → ops.is_idle p ≡ false
    → is_some (ops.question_in me view tag (ops.again quorum p)) ≡ true
asks_some me view tag quorum ops.Idle e = cc
asks_some me view tag quorum _ e = refl

some_question : (b : Bool) (me quorum : ℕ) (s : ops.Ops) → (b ≡ true → ops.is_idle s.phase ≡ false) → is_some (question_if b me quorum s) ≡ b
some_question true me quorum s pends = asks_some me s.view (s.tag + 1) quorum s.phase (pends refl)
some_question false me quorum s pends = refl

-- a phase that begins anew is pending, before the snapshot and after
pub anew_pends : (c : Core) (from n : ℕ) (m : Message) → asks_anew c from n m ≡ true → ops.is_idle c.ops.phase ≡ false
anew_pends c from n m e = not-true _ (and_parts _ _ (and_parts (is_snapshot m) _ e).1).0

same_phase : (c : Core) (m : Message) → is_snapshot m ≡ true → (ops.after_message c.me (quorum c) m c.ops).phase ≡ c.ops.phase
same_phase c (message.Snapshot d v) e = refl
same_phase c _ e = cc

pub makes_told : (c : Core) (from n : ℕ) (m : Message) → is_snapshot m ≡ true
    → is_some (post c (event.Deliver from n m)) ≡ ((tells c from n m && churn.joins_told c.gamma (churned c m)) || asks_anew c from n m)
makes_told c from n m e =
    ap is_some (post_told c from n m e) ∙ is_some_or (join_told c from n m) (asked_anew c from n m)
    ∙ (λ i. some_join (tells c from n m) c.me c.gamma (churned c m) i
    || some_question (asks_anew c from n m) c.me (churn.quorum c.beta (churn_told c from n m)) (ops.after_message c.me (quorum c) m c.ops)
    (λ a. ap ops.is_idle (same_phase c m e) ∙ anew_pends c from n m a) i)

-- ---- which counters an event would raise

-- a test that fails is passed over
pub or_passes : (a b : Bool) → a ≡ false → (a || b) ≡ b
or_passes a b e = ap (λ x. x || b) e

-- where nothing but posts is counted
posts_alone : (c : Core) (posts : ℕ)
    → (passes c.ops.number c.ops.number || overruns c.ops.tag c.ops.tag || overruns c.posts posts || overruns c.churn.echoes c.churn.echoes || false)
    ≡ overruns c.posts posts
posts_alone c posts =
    any_of _ _ _ _ _ false false _ false false (passes_none c.ops.number) (stays c.ops.tag) refl (stays c.churn.echoes) refl ∙ or-false _ ∙ or-false _

pub spent_enter : (c : Core) → spent c event.Enter ≡ then_some (c.posts == counter_limit) refusal.Spent
unfolding next
spent_enter c = ap (λ b. then_some b refusal.Spent) (posts_alone c (c.posts + 1) ∙ rises c.posts)

pub spent_leave : (c : Core) → spent c event.Leave ≡ then_some (c.posts == counter_limit) refusal.Spent
unfolding next
spent_leave c = ap (λ b. then_some b refusal.Spent) (posts_alone c (c.posts + 1) ∙ rises c.posts)

pub spent_ack : (c : Core) (peer n : ℕ) → spent c (event.Acked peer n) ≡ None
unfolding next
spent_ack c peer n = ap (λ b. then_some b refusal.Spent) (posts_alone c (c.posts + 0) ∙ stays_at c.posts (c.posts + 0) (omega arith))

pub spent_retire : (c : Core) (q : ℕ) → spent c (event.Retire q) ≡ None
unfolding next
spent_retire c q = ap (λ b. then_some b refusal.Spent) (posts_alone c (c.posts + 0) ∙ stays_at c.posts (c.posts + 0) (omega arith))

pub spent_snapshot : (c : Core) → spent c event.Snapshot ≡ then_some (c.posts == counter_limit) refusal.Spent
unfolding next
spent_snapshot c = ap (λ b. then_some b refusal.Spent) (posts_alone c (c.posts + 1) ∙ rises c.posts)

pub spent_lapse : (c : Core) (q : ℕ) → spent c (event.Lapse q) ≡ None
unfolding next
spent_lapse c q = ap (λ b. then_some b refusal.Spent) (posts_alone c (c.posts + 0) ∙ stays_at c.posts (c.posts + 0) (omega arith))

pub spent_skip : (c : Core) (from : ℕ) (posts : Range) → spent c (event.Skip from posts) ≡ then_some (nat_lt counter_limit posts.last) refusal.Spent
unfolding next
spent_skip c from posts =
    ap (λ b. then_some b refusal.Spent)
    (any_of _ _ _ _ _ false false false false _ (passes_none c.ops.number) (stays c.ops.tag) (stays_at c.posts (c.posts + 0) (omega arith))
    (stays c.churn.echoes) (ap (nat_lt counter_limit) (hears_skip c from posts)))

pub skip_is_spent : (c : Core) (from : ℕ) (posts : Range) → counter_limit < posts.last → spent c (event.Skip from posts) ≡ Some refusal.Spent
skip_is_spent c from posts over =
    spent_skip c from posts ∙ ap (λ b. then_some b refusal.Spent) (lt-ltb counter_limit posts.last over)

pub skip_passes : (c : Core) (from : ℕ) (posts : Range) → posts.last ≤ counter_limit → spent c (event.Skip from posts) ≡ None
skip_passes c from posts within =
    spent_skip c from posts ∙ ap (λ b. then_some b refusal.Spent) (le-ltb counter_limit posts.last within)

pub spent_share : (c : Core) (share : ℕ) → IsAskShare share → spent c (event.Share share) ≡ None
unfolding next
spent_share c share is =
    ap (λ b. then_some b refusal.Spent)
    (any_of _ _ _ _ _ false false false false false (passes_none c.ops.number) (stays c.ops.tag) (stays_at c.posts (c.posts + 0) (omega arith))
    (stays c.churn.echoes) (share_is share is))

-- whether these operations have a number or a tag past its limit
abbrev pub counts : Core → ops.Ops → Bool
counts c o = passes c.ops.number o.number || overruns c.ops.tag o.tag

-- a delivery of what isn't a snapshot
pub spent_delivery : (c : Core) (from n : ℕ) (m : Message) → is_snapshot m ≡ false
    → any_overruns c (next c (event.Deliver from n m)) (event.Deliver from n m)
    ≡ (counts c (ops.after_message c.me (quorum c) m c.ops) || (is_some (post c (event.Deliver from n m)) && (c.posts == counter_limit))
    || overruns c.churn.echoes (churned c m).echoes || nat_lt counter_limit n)
unfolding next
spent_delivery c from n m e =
    let after = ops.after_message c.me (quorum c) m c.ops in
    let again = churn.quorum c.beta (churn_told c from n m) in
    let same : ops_anew c from n m ≡ after = ap (λ b. anew_if b again after) (not_anew c from n m e) in
    let told : churn_told c from n m ≡ churned c m = ap (λ b. told_if b c.me c.gamma (churned c m)) (not_told c from n m e) in
    any_of _ _ _ _ _ _ _ _ _ _ (ap (λ (s : ops.Ops). passes c.ops.number s.number) same) (ap (λ (s : ops.Ops). overruns c.ops.tag s.tag) same)
    (rises_with c.posts (post c (event.Deliver from n m))) (ap (λ (s : churn.Churn). overruns c.churn.echoes s.echoes) told)
    (ap (nat_lt counter_limit) (hears_now c from n m))

one_more : (b : Bool) (before same after : ℕ) → same ≡ before → (b ≡ true → after ≡ same + 1) → (b ≡ false → after ≡ same)
    → overruns before after ≡ (b && (before == counter_limit))
one_more true before same after e up stay = ap (overruns before) (up refl ∙ ap (λ k. k + 1) e) ∙ rises before
one_more false before same after e up stay = stays_at before after (stay refl ∙ e)

-- a delivery of a snapshot
pub spent_told : (c : Core) (from n : ℕ) (m : Message) → is_snapshot m ≡ true
    → any_overruns c (next c (event.Deliver from n m)) (event.Deliver from n m)
    ≡ ((asks_anew c from n m && (c.ops.tag == counter_limit)) || (is_some (post c (event.Deliver from n m)) && (c.posts == counter_limit))
    || (tells c from n m && (c.churn.echoes == counter_limit)) || nat_lt counter_limit n)
unfolding next
spent_told c from n m e =
    let after = ops.after_message c.me (quorum c) m c.ops in
    let again = churn.quorum c.beta (churn_told c from n m) in
    let a = asks_anew c from n m in
    let t = tells c from n m in
    any_of _ _ _ _ _ false _ _ _ _
    (passes_at c.ops.number _ (anew_number a again after ∙ snapshot_number c.me (quorum c) m c.ops e))
    (one_more a c.ops.tag after.tag (ops_anew c from n m).tag (snapshot_tag c.me (quorum c) m c.ops e) (anew_one a again after)
    (ap (λ b. (anew_if b again after).tag)))
    (rises_with c.posts (post c (event.Deliver from n m)))
    (one_more t c.churn.echoes (churned c m).echoes (churn_told c from n m).echoes (snapshot_echoes c.me c.gamma m c.churn e)
    (told_one t c.me c.gamma (churned c m)) (ap (λ b. (told_if b c.me c.gamma (churned c m)).echoes)))
    (ap (nat_lt counter_limit) (hears_now c from n m))

pub last_one : (last r : ℕ) → r ≡ last + 1 → last ≤ counter_limit → overruns last r ≡ nat_lt counter_limit r
last_one last r e h =
    ap (overruns last) e ∙ rises last ∙ elim (eqb_tells last counter_limit) as (λ _. (last == counter_limit) ≡ nat_lt counter_limit r) [
      | inl t ↦ t.0 ∙ sym (lt-ltb counter_limit r (omega (arith, e, t.1)))
      | inr t ↦ t.0 ∙ sym (le-ltb counter_limit r (omega (arith, e, t.1, h)))
    ]

last_or_next : (last r : ℕ) → (r ≡ last) ⊎ (r ≡ last + 1) → last ≤ counter_limit → overruns last r ≡ nat_lt counter_limit r
last_or_next last r (inl e) h = stays_at last r e ∙ sym (le-ltb counter_limit r (omega (arith, e, h)))
last_or_next last r (inr e) h = last_one last r e h

-- an ask is posted where it begins
pub posts_if_idle : (c : Core) (s r : ℕ) (k : Command) → is_some (post c (event.Ask s r k)) ≡ ops.is_idle c.ops.phase
posts_if_idle c s r k = one_if (ops.is_idle c.ops.phase) (asked_of s r k) (λ asked. ops.first_post c.me asked (handled c (event.Ask s r k)).ops)
  where
    one_if : (b : Bool) (a : Asked) (f : Asked → Message) → is_some (option_map f (first_in (if b then a ∷ [] else []))) ≡ b
    one_if true a f = refl
    one_if false a f = refl

-- an ask of the last request or of the next one
pub spent_ask : (c : Core) (s r : ℕ) (k : Command) → (r ≡ last_request c.sessions s) ⊎ (r ≡ last_request c.sessions s + 1)
    → last_request c.sessions s ≤ counter_limit
    → any_overruns c (next c (event.Ask s r k)) (event.Ask s r k)
    ≡ (counts c (ops.after_ask c.me (quorum c) (asked_of s r k) c.ops) || (ops.is_idle c.ops.phase && (c.posts == counter_limit)) || nat_lt counter_limit r)
unfolding next
spent_ask c s r k e h =
    let number = passes c.ops.number (ops.after_ask c.me (quorum c) (asked_of s r k) c.ops).number in
    let tag = overruns c.ops.tag (ops.after_ask c.me (quorum c) (asked_of s r k) c.ops).tag in
    any_of number tag _ _ _ number tag _ false _ refl refl
    (rises_with c.posts (post c (event.Ask s r k)) ∙ ap (λ b. b && (c.posts == counter_limit)) (posts_if_idle c s r k)) (stays c.churn.echoes)
    (ap (overruns (last_request c.sessions s)) (request_now c.sessions s r) ∙ last_or_next (last_request c.sessions s) r e h)
    ∙ ap (λ b. b || nat_lt counter_limit r) (or-false _)

-- ---- of the reasons, the first

pub ack_refused : (c : Core) (peer n : ℕ) → nothing_to_ack c peer n ≡ decides c (event.Acked peer n)
unfolding decides decides_within
ack_refused c peer n = sym (ap (λ o. first_of (nothing_to_ack c peer n ∷ o ∷ [])) (spent_ack c peer n) ∙ first_but_none (nothing_to_ack c peer n))
  where
    first_but_none : (o : Option Refusal) → first_of (o ∷ None ∷ []) ≡ o
    first_but_none None = refl
    first_but_none (Some r) = refl

none_holds : (b : Bool) (r : Refusal) (rs : List (Option Refusal)) → first_of (then_some b r ∷ rs) ≡ None → (b ≡ false) × (first_of rs ≡ None)
none_holds true r rs h = absurd cc
none_holds false r rs h = (refl, h)

-- a number that isn't old is above what was heard
pub number_after : (c : Core) (from n : ℕ) (m : Message) → first_of (of_number c from n m) ≡ None → heard_from from c.links < n
number_after c from n m h =
    let heard = heard_from from c.links in
    leb-false n heard (none_holds (nat_le n heard) (refusal.Old heard) (gap c from n m ∷ []) h).0

-- a request that is neither stale nor leaves one out is the next one
pub next_request : (c : Core) (s r : ℕ) → first_of (stale c s r ∷ skip c s r ∷ []) ≡ None
    → (r ≡ last_request c.sessions s) ⊎ (r ≡ last_request c.sessions s + 1)
next_request c s r h =
    let last = last_request c.sessions s in
    let a = none_holds (is_stale c.sessions s r) (refusal.Stale last) (skip c s r ∷ []) h in
    let b = none_holds (is_skip c.sessions s r) (refusal.Skip last) [] a.1 in
    let above : last ≤ r = ltb-false r last (or_parts _ _ a.0).0 in
    let below : r ≤ last + 1 = ltb-false (last + 1) r b.0 in
    close last r above below
  where
    close : (last r : ℕ) → last ≤ r → r ≤ last + 1 → (r ≡ last) ⊎ (r ≡ last + 1)
    close last r a b = grind arith

-- where no reason of the request holds, it is neither stale nor leaves one out
pub is_next : (c : Core) (s r : ℕ) → first_of (of_request c s r) ≡ None → first_of (stale c s r ∷ skip c s r ∷ []) ≡ None
is_next c s r h =
    let a = none_holds (finds_no_room c.sessions s) refusal.TooManySessions (repeat c s r ∷ stale c s r ∷ skip c s r ∷ []) h in
    (none_holds (is_repeat c.sessions s r) refusal.Repeat (stale c s r ∷ skip c s r ∷ []) a.1).1
