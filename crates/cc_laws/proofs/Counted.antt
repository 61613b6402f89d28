-- The answers that are counted are those of which a node's own state shows that they came.
--     Outcome, outcome            an event is of no matter to the round that pends, or brings it one answer more, or its last one,
--                                 or lets its phase begin anew
--     counted_is, ended_is, anew_is   so what is counted is what the state shows
--     counted_along               after any history as many peers are counted as the pending round has answers
--     round_enough                a round that ended counted as many as it needs
use Rattle.std.proofs.Common.{◌≡◌, ◌≢◌, ◌⊎◌, inl, inr, ℕ, ◌+◌, Bool, true, false, List, ◌∷◌, ◌++◌, length, refl, sym, ap, subst, ◌∙◌, arith, []}
use Rattle.std.specs.Prelude.{◌↔◌, ◌&&◌, ◌||◌, not, ◌==◌, Option, Some, None, is_some, if◌then◌else◌}
use Rattle.std.specs.Bool.{then_some}
use Rattle.std.proofs.lemmas.Bool.{eqb-true, false≢true, both_ways}
use Rattle.std.proofs.lemmas.Option.{none-some}
use Rattle.cc_views.specs.Rows.{ViewMap}
use Rattle.cc_views.specs.Merge.{merge}
use Rattle.cc_messages.specs.declared.event.Event.{Event}
use Rattle.cc_messages.specs.declared.event.Event.TheVariants as event
use Rattle.cc_messages.specs.declared.message.Message.{Message}
use Rattle.cc_messages.specs.declared.message.Message.TheVariants as message
use Rattle.cc_ops.specs.declared.pending_operation.Asked.{Asked}
use Rattle.cc_ops.specs.declared.pending_operation.Pending.{Pending}
use Rattle.cc_ops.specs.Ops.{Ops, Phase, Idle, Storing, Querying, StoringBack, is_idle, is_last, is_own, round_of, counted, merged, next_round, begin_round}
use Rattle.cc_ops.specs.Ops.{with_begun, after_reply, after_last, after_ack, asked_in}
use Rattle.cc_ops.specs.OwnLaws.{asked_again, seen_again}
use Rattle.cc_laws.proofs.AnewLaws.{awaited_again, none_again}
use Rattle.cc_ops.specs.Rounds.{first_round, line_behind}
use Rattle.cc_ops.specs.WaitingAsks.{writes_by}
use Rattle.cc_churn.specs.Churn as churn
use Rattle.cc_node.specs.Core.{Core, quorum, asked_of, skips, churn_told, anew_if, next}
use Rattle.cc_node.specs.Node.{Node, step, after}
use Rattle.cc_node.specs.Openings.{Opening, fresh}
use Rattle.cc_laws.specs.Progress.{round_under, round_in, GainsAnswer, BeginsAnew, EndsRound, IsFrom}
use Rattle.cc_laws.specs.Rounds.{awaits_views, awaits_acks, answers_in, need_in, lacks_one, counts, ends_round, begins_anew, with_peer, peers_next, peers_along, Round, peers_of}
use Rattle.cc_laws.proofs.RoundResults.{of_round}
use Rattle.cc_laws.proofs.CountedAnswers.{no_views}

-- from one state to the next, with what is counted, whether the round ends, and whether its phase begins anew
pub data Outcome (e : Event) (s t : Ops) (peer : Option ℕ) (over restarts : Bool) : Type 0 where
  goes_on : peer ≡ None → over ≡ false → restarts ≡ false → (is_some (round_in s) ≡ true → round_in t ≡ round_in s)
      → answers_in t.phase ≡ answers_in s.phase → Outcome e s t peer over restarts
  gains : (from : ℕ) → peer ≡ Some from → over ≡ false → restarts ≡ false → IsFrom from e → GainsAnswer s t → Outcome e s t peer over restarts
  ends : (from : ℕ) → peer ≡ Some from → over ≡ true → restarts ≡ false → IsFrom from e → EndsRound s t → answers_in s.phase + 1 ≡ need_in s.phase
      → answers_in t.phase ≡ 0 → Outcome e s t peer over restarts
  starts_over : peer ≡ None → over ≡ false → restarts ≡ true → BeginsAnew s t → Outcome e s t peer over restarts

-- ---- an operation that begins

round_answers : (me quorum : ℕ) (asks : List Asked) (s : Ops) → answers_in (begin_round me quorum asks s).phase ≡ 0
round_answers me quorum [] s = refl
round_answers me quorum (a ∷ others) s = of_round (λ t. answers_in t.phase ≡ 0) me quorum a others s (λ _. refl) (λ _. refl)

begun_round : (me quorum : ℕ) (a : Asked) (others : List Asked) (s : Ops) → round_in (begin_round me quorum (a ∷ others) s) ≡ Some (s.tag + 1)
begun_round me quorum a others s = of_round (λ t. round_in t ≡ Some (s.tag + 1)) me quorum a others s (λ _. refl) (λ _. refl)

abbrev left_behind : Ops → Ops
left_behind s = record s { line = line_behind s.share s.line }

last_answers : (me quorum : ℕ) (s : Ops) → answers_in (after_last me quorum s).phase ≡ 0
last_answers me quorum s = round_answers me quorum (first_round s.share s.line) (left_behind s)

another : (tag : ℕ) → Some (tag + 1) ≢ Some tag
another tag same = let is : tag + 1 ≡ tag = cc in omega (arith, is)

round_over : (me quorum : ℕ) (asks : List Asked) (s : Ops) → round_in (begin_round me quorum asks s) ≢ Some s.tag
round_over me quorum [] s same = cc
round_over me quorum (a ∷ others) s same = another s.tag (sym (begun_round me quorum a others s) ∙ same)

last_over : (me quorum : ℕ) (s : Ops) → round_in (after_last me quorum s) ≢ Some s.tag
last_over me quorum s = round_over me quorum (first_round s.share s.line) (left_behind s)

-- ---- a phase that begins anew isn't an operation that begins, nor one that goes on to store back

one_asked : (phase : Phase) (others : List Asked) → asked_in phase ++ others ≡ [] → awaits_acks phase ≡ true → ⊥
one_asked Idle others none is = cc
one_asked _ others none is = cc

round_for_good : (me quorum : ℕ) (asks : List Asked) (s t : Ops) → s.phase ≡ t.phase → s.number ≡ t.number → awaits_acks s.phase ≡ true
    → BeginsAnew s (begin_round me quorum asks t) → ⊥
round_for_good me quorum [] s t phase number is h = one_asked s.phase s.others (sym h.asked) is
round_for_good me quorum (a ∷ others) s t phase number is h =
    of_round (λ u. BeginsAnew s u → ⊥) me quorum a others t
    (λ writes k.
    let count : writes_by (a ∷ others) ≡ 1 + writes_by others = ap (λ (b : Bool). (if b then 1 else 0) + writes_by others) writes in
    omega (arith, k.number, number, count))
    (λ _ k. both_ways _ (no_views s.phase is) (sym k.awaited)) h

last_for_good : (me quorum : ℕ) (s : Ops) → awaits_acks s.phase ≡ true → BeginsAnew s (after_last me quorum s) → ⊥
last_for_good me quorum s = round_for_good me quorum (first_round s.share s.line) s (left_behind s) refl refl

-- the round of a phase that pends has the tag of then
tag_of : (tag k : ℕ) (phase : Phase) → round_under tag phase ≡ Some k → tag ≡ k
tag_of tag k Idle is = cc
tag_of tag k _ is = cc

round_tag : (tag : ℕ) (phase : Phase) → is_some (round_under tag phase) ≡ true → round_under tag phase ≡ Some tag
round_tag tag Idle some = cc
round_tag tag _ some = refl

other_round : (s t : Ops) → BeginsAnew s t → round_in t ≢ round_in s
other_round s t h same = let is : t.tag ≡ s.tag = tag_of t.tag s.tag t.phase (same ∙ round_tag s.tag s.phase h.pended) in omega (arith, is, h.tag)

-- ---- one event

module _ (e : Event) (from : ℕ) (is_from : IsFrom from e) where
  still : (s : Ops) → Outcome e s s None false false
  still s = goes_on refl refl refl (λ _. refl) refl

  module _ (s : Ops) (p : Pending) (phase : Phase) (is : s.phase ≡ phase) (pends : round_under s.tag phase ≡ Some s.tag) (count : answers_in phase ≡ p.count)
      (need : need_in phase ≡ p.need) where
    at : round_in s ≡ Some s.tag
    at = ap (round_under s.tag) is ∙ pends

    one_more : (t : Ops) → round_in t ≡ Some s.tag → answers_in t.phase ≡ p.count + 1 → Outcome e s t (Some from) false false
    one_more t same more =
        gains from refl refl refl is_from (record { same = same ∙ sym at; more = more ∙ ap (λ k. k + 1) (sym count ∙ ap answers_in (sym is)) })

    the_last : (t : Ops) → is_last p ≡ true → round_in t ≢ Some s.tag → answers_in t.phase ≡ 0 → ¬ (BeginsAnew s t) → Outcome e s t (Some from) true false
    the_last t last apart none good =
        ends from refl refl refl is_from (record { pended = ap is_some at; over = λ same. apart (same ∙ at); for_good = good })
        (ap (λ k. k + 1) (ap answers_in is ∙ count) ∙ eqb-true (p.count + 1) p.need last ∙ sym (ap need_in is ∙ need)) none

    -- one answer more, or the last one
    either : (more last : Ops) → round_in more ≡ Some s.tag → answers_in more.phase ≡ p.count + 1 → round_in last ≢ Some s.tag → answers_in last.phase ≡ 0
        → ¬ (BeginsAnew s last) → Outcome e s (if is_last p then last else more) (Some from) (is_last p) false
    either more last same gained apart none good =
        elim (is_last p) as (λ b. is_last p ≡ b → Outcome e s (if b then last else more) (Some from) b false) [
          | true ↦ λ h. the_last last h apart none good
          | false ↦ λ h. one_more more same gained
        ] refl

  ack_outcome : (me quorum : ℕ) (s : Ops) (b : Bool) (phase : Phase) → s.phase ≡ phase
      → Outcome e s (if b then after_ack me quorum phase s else s) (then_some (b && awaits_acks phase) from) ((b && awaits_acks phase) && lacks_one phase) false
  ack_outcome me quorum s false phase is = still s
  ack_outcome me quorum s true Idle is = still s
  ack_outcome me quorum s true (Storing p) is =
      either s p (Storing p) is refl refl refl (record s { phase = Storing (counted p) }) (after_last me quorum s) refl refl
      (last_over me quorum s) (last_answers me quorum s) (last_for_good me quorum s (ap awaits_acks is))
  ack_outcome me quorum s true (Querying p) is = still s
  ack_outcome me quorum s true (StoringBack p seen) is =
      either s p (StoringBack p seen) is refl refl refl (record s { phase = StoringBack (counted p) seen }) (after_last me quorum s) refl refl
      (last_over me quorum s) (last_answers me quorum s) (last_for_good me quorum s (ap awaits_acks is))

  reply_outcome : (quorum : ℕ) (v : ViewMap) (s : Ops) (b : Bool) (phase : Phase) → s.phase ≡ phase
      → Outcome e s (if b then after_reply quorum v phase s else s) (then_some (b && awaits_views phase) from) ((b && awaits_views phase) && lacks_one phase) false
  reply_outcome quorum v s false phase is = still s
  reply_outcome quorum v s true Idle is = still s
  reply_outcome quorum v s true (Storing p) is = still s
  reply_outcome quorum v s true (Querying p) is =
      either s p (Querying p) is refl refl refl (record (merged v s) { phase = Querying (counted p) })
      (next_round (StoringBack (round_of quorum p.asked) (merge s.view v)) (merged v s)) refl refl (another s.tag) refl
      (λ h. false≢true (h.awaited ∙ ap awaits_views is))
  reply_outcome quorum v s true (StoringBack p seen) is = still s

ask_outcome : (e : Event) (me quorum : ℕ) (a : Asked) (line : List Asked) (s : Ops) (phase : Phase) → s.phase ≡ phase
    → Outcome e s (if is_idle phase then with_begun me quorum a s else record s { line = line }) None false false
ask_outcome e me quorum a line s Idle is =
    goes_on refl refl refl (λ some. absurd (false≢true (sym (ap (λ x. is_some (round_under s.tag x)) is) ∙ some)))
    (round_answers me quorum (a ∷ []) s ∙ ap answers_in (sym is))
ask_outcome e me quorum a line s _ is = goes_on refl refl refl (λ _. refl) refl

busy_pends : (tag : ℕ) (phase : Phase) → is_idle phase ≡ false → is_some (round_under tag phase) ≡ true
busy_pends tag Idle busy = cc
busy_pends tag _ busy = refl

-- a snapshot leaves the round as it is, or lets its phase begin anew
snapshot_outcome : (e : Event) (b may : Bool) (quorum : ℕ) (v : ViewMap) (s : Ops) → b ≡ (not (is_idle s.phase) && may)
    → Outcome e s (anew_if b quorum (merged v s)) None false b
snapshot_outcome e true may quorum v s is =
    starts_over refl refl refl (record {
      pended = busy_pends s.tag s.phase (busy (is_idle s.phase) is);
      tag = refl;
      number = refl;
      asked = λ i. asked_again quorum s.phase i ++ s.others;
      seen = seen_again quorum s.phase;
      awaited = awaited_again quorum s.phase;
      none = none_again quorum s.phase;
    })
  where
    busy : (idle : Bool) → true ≡ (not idle && may) → idle ≡ false
    busy true h = cc
    busy false h = refl
snapshot_outcome e false may quorum v s is = goes_on refl refl refl (λ _. refl) refl

message_outcome : (c : Core) (from n : ℕ) (m : Message)
    → (let e = event.Deliver from n m in Outcome e c.ops (next c e).ops (counts c e) (ends_round c e) (begins_anew c e))
unfolding next
message_outcome c from n (message.QueryReply v tag q) =
    reply_outcome (event.Deliver from n (message.QueryReply v tag q)) from refl (quorum c) v c.ops (is_own c.me tag q c.ops) c.ops.phase refl
message_outcome c from n (message.StoreAck tag q) =
    ack_outcome (event.Deliver from n (message.StoreAck tag q)) from refl c.me (quorum c) c.ops (is_own c.me tag q c.ops) c.ops.phase refl
message_outcome c from n (message.Snapshot d v) =
    let e = event.Deliver from n (message.Snapshot d v) in
    snapshot_outcome e (begins_anew c e) ((from == c.me) || skips c from n) (churn.quorum c.beta (churn_told c from n (message.Snapshot d v))) v c.ops refl
message_outcome c from n _ = goes_on refl refl refl (λ _. refl) refl

pub outcome : (c : Core) (e : Event) → Outcome e c.ops (next c e).ops (counts c e) (ends_round c e) (begins_anew c e)
unfolding next
outcome c (event.Deliver from n m) = message_outcome c from n m
outcome c (event.Ask s r command) =
    ask_outcome (event.Ask s r command) c.me (quorum c) (asked_of s r command) (c.ops.line ++ asked_of s r command ∷ []) c.ops c.ops.phase refl
outcome c _ = goes_on refl refl refl (λ _. refl) refl

-- ---- what is counted is what the state shows

same_sender : (p q : ℕ) (e : Event) → IsFrom p e → IsFrom q e → p ≡ q
same_sender p q (event.Deliver from n m) h k = sym h ∙ k
same_sender p q _ h k = absurd h

module _ (e : Event) (s t : Ops) where
  -- an answer more, and the end of a round, are changes that an event of no matter doesn't make
  no_gain : answers_in t.phase ≡ answers_in s.phase → GainsAnswer s t → ⊥
  no_gain same g = omega (arith, same, g.more)

  no_end : (is_some (round_in s) ≡ true → round_in t ≡ round_in s) → EndsRound s t → ⊥
  no_end same h = h.over (same h.pended)

  -- a phase that begins anew has no answer yet
  no_gain_anew : BeginsAnew s t → GainsAnswer s t → ⊥
  no_gain_anew h g = omega (arith, h.none, g.more)

  counted_by : (peer : Option ℕ) (over restarts : Bool) (q : ℕ) → Outcome e s t peer over restarts
      → (peer ≡ Some q) ↔ (IsFrom q e × (GainsAnswer s t ⊎ EndsRound s t))
  counted_by peer over restarts q (goes_on none _ _ same count) = (
    λ is. absurd (none-some q (sym none ∙ is)),
    λ h. elim h.1 as (λ _. peer ≡ Some q) [
      | inl g ↦ absurd (no_gain count g)
      | inr g ↦ absurd (no_end same g)
    ],
  )
  counted_by peer over restarts q (gains from is _ _ sent gain) = (
    λ at. let same : from ≡ q = cc in (subst (λ x. IsFrom x e) same sent, inl gain),
    λ h. is ∙ ap Some (same_sender from q e sent h.0),
  )
  counted_by peer over restarts q (ends from is _ _ sent end enough none) = (
    λ at. let same : from ≡ q = cc in (subst (λ x. IsFrom x e) same sent, inr end),
    λ h. is ∙ ap Some (same_sender from q e sent h.0),
  )
  counted_by peer over restarts q (starts_over none _ _ begins) = (
    λ is. absurd (none-some q (sym none ∙ is)),
    λ h. elim h.1 as (λ _. peer ≡ Some q) [
      | inl g ↦ absurd (no_gain_anew begins g)
      | inr g ↦ absurd (g.for_good begins)
    ],
  )

  ended_by : (peer : Option ℕ) (over restarts : Bool) → Outcome e s t peer over restarts → (over ≡ true) ↔ EndsRound s t
  ended_by peer over restarts (goes_on none lasts _ same count) = (λ is. absurd (false≢true (sym lasts ∙ is)), λ h. absurd (no_end same h))
  ended_by peer over restarts (gains from is lasts _ sent gain) = (λ at. absurd (false≢true (sym lasts ∙ at)), λ h. absurd (h.over gain.same))
  ended_by peer over restarts (ends from is at _ sent end enough none) = (λ _. end, λ _. at)
  ended_by peer over restarts (starts_over none lasts _ begins) = (λ at. absurd (false≢true (sym lasts ∙ at)), λ h. absurd (h.for_good begins))

  anew_by : (peer : Option ℕ) (over restarts : Bool) → Outcome e s t peer over restarts → (restarts ≡ true) ↔ BeginsAnew s t
  anew_by peer over restarts (goes_on none _ lasts same count) =
      (λ is. absurd (false≢true (sym lasts ∙ is)), λ h. absurd (other_round s t h (same h.pended)))
  anew_by peer over restarts (gains from is _ lasts sent gain) = (λ at. absurd (false≢true (sym lasts ∙ at)), λ h. absurd (other_round s t h gain.same))
  anew_by peer over restarts (ends from is _ lasts sent end enough none) = (λ at. absurd (false≢true (sym lasts ∙ at)), λ h. absurd (end.for_good h))
  anew_by peer over restarts (starts_over none _ at begins) = (λ _. begins, λ _. at)

  -- as many are counted afterwards as the round has then
  counted_next : (peer : Option ℕ) (over restarts : Bool) (peers : List ℕ) → Outcome e s t peer over restarts → length peers ≡ answers_in s.phase
      → length (if restarts || over then [] else with_peer peer peers) ≡ answers_in t.phase
  counted_next peer over restarts peers (goes_on none lasts stays same count) h =
      (λ i. length (if stays i || lasts i then [] else with_peer (none i) peers)) ∙ h ∙ sym count
  counted_next peer over restarts peers (gains from is lasts stays sent gain) h =
      let all : length (if restarts || over then [] else with_peer peer peers) ≡ length (from ∷ peers) =
      λ i. length (if stays i || lasts i then [] else with_peer (is i) peers) in
      omega (arith, all, h, gain.more)
  counted_next peer over restarts peers (ends from is at stays sent end enough none) h =
      (λ i. length (if stays i || at i then [] else with_peer peer peers)) ∙ sym none
  counted_next peer over restarts peers (starts_over none _ at begins) h = (λ i. length (if at i || over then [] else with_peer peer peers)) ∙ sym begins.none

  counted_last : (peer : Option ℕ) (over restarts : Bool) (peers : List ℕ) → Outcome e s t peer over restarts → over ≡ true → length peers ≡ answers_in s.phase
      → length (with_peer peer peers) ≡ need_in s.phase
  counted_last peer over restarts peers (goes_on none lasts _ same count) at h = absurd (false≢true (sym lasts ∙ at))
  counted_last peer over restarts peers (gains from is lasts _ sent gain) at h = absurd (false≢true (sym lasts ∙ at))
  counted_last peer over restarts peers (ends from is _ _ sent end enough none) at h =
      let all : length (with_peer peer peers) ≡ length (from ∷ peers) = ap (λ o. length (with_peer o peers)) is in
      omega (arith, all, h, enough)
  counted_last peer over restarts peers (starts_over none lasts _ begins) at h = absurd (false≢true (sym lasts ∙ at))

pub counted_is : (c : Core) (e : Event) (q : ℕ) → (counts c e ≡ Some q) ↔ (IsFrom q e × (GainsAnswer c.ops (next c e).ops ⊎ EndsRound c.ops (next c e).ops))
counted_is c e q = counted_by e c.ops (next c e).ops (counts c e) (ends_round c e) (begins_anew c e) q (outcome c e)

pub ended_is : (c : Core) (e : Event) → (ends_round c e ≡ true) ↔ EndsRound c.ops (next c e).ops
ended_is c e = ended_by e c.ops (next c e).ops (counts c e) (ends_round c e) (begins_anew c e) (outcome c e)

pub anew_is : (c : Core) (e : Event) → (begins_anew c e ≡ true) ↔ BeginsAnew c.ops (next c e).ops
anew_is c e = anew_by e c.ops (next c e).ops (counts c e) (ends_round c e) (begins_anew c e) (outcome c e)

-- ---- along a history

counted_after : (n : Node) (peers : List ℕ) (es : List Event) → length peers ≡ answers_in n.core.ops.phase
    → length (peers_along n peers es) ≡ answers_in (after n es).core.ops.phase
unfolding step
counted_after n peers [] h = h
counted_after n peers (e ∷ es) h =
    counted_after (step n e) (peers_next n.core e peers) es
    (counted_next e n.core.ops (next n.core e).ops (counts n.core e) (ends_round n.core e) (begins_anew n.core e) peers (outcome n.core e) h)

fresh_answers : (o : Opening) → answers_in (fresh o).core.ops.phase ≡ 0
unfolding fresh
fresh_answers o = refl

pub counted_along : (o : Opening) (es : List Event) → length (peers_along (fresh o) [] es) ≡ answers_in (after (fresh o) es).core.ops.phase
counted_along o es = counted_after (fresh o) [] es (sym (fresh_answers o))

pub round_enough : (o : Opening) (es : List Event) (round : Round (fresh o) es)
    → length (peers_of (fresh o) es round) ≡ need_in (after (fresh o) round.before).core.ops.phase
round_enough o es round =
    let c = (after (fresh o) round.before).core in
    counted_last round.last c.ops (next c round.last).ops (counts c round.last) (ends_round c round.last) (begins_anew c round.last)
    (peers_along (fresh o) [] round.before) (outcome c round.last) round.ends
    (counted_along o round.before)
