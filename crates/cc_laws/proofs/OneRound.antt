-- A request has one round of a kind that ends: one that queries, or one that stores.
--     IsApart, NotAsked      an ask that isn't this request;  none of these is
--     Over                   the request's round of that kind has ended, and no other comes
--     over_along             so it is behind any events from then on
--     one_round              two rounds of a kind that ended for one request ended with one event
--     IsOf, same_counted     such a round;  two of them counted the same nodes
use Rattle.std.proofs.Common.{◌≡◌, ◌⊎◌, inl, inr, ℕ, zero, suc, ◌≤◌, ◌<◌, Bool, true, false, List, [], ◌∷◌, ◌++◌, refl, sym, ap, subst, ◌∙◌, arith}
use Rattle.std.specs.Prelude.{◌&&◌, None, if◌then◌else◌}
use Rattle.std.specs.List.{Contains, AllByRecursion}
use Rattle.std.proofs.lemmas.Bool.{or_parts, eqb-false, false≢true}
use Rattle.cc_views.specs.Rows.{ViewMap}
use Rattle.cc_views.specs.Merge.{merge}
use Rattle.cc_messages.specs.declared.event.Event.{Event}
use Rattle.cc_messages.specs.declared.event.Event.TheVariants as event
use Rattle.cc_messages.specs.declared.message.Message.{Message}
use Rattle.cc_messages.specs.declared.message.Message.TheVariants as message
use Rattle.cc_ops.specs.declared.pending_operation.Asked.{Asked}
use Rattle.cc_ops.specs.declared.pending_operation.Pending.{Pending}
use Rattle.cc_ops.specs.Ops.{Ops, Phase, Querying, Storing, StoringBack, is_idle, is_own, round_of, counted, begin_round, after_reply, after_ack}
use Rattle.cc_ops.specs.Ops.{after_last, after_ask, after_message, anew, asked_in, pending}
use Rattle.cc_ops.specs.OwnLaws.{round_line, round_pending, asked_again}
use Rattle.cc_laws.proofs.AnewLaws.{awaited_again}
use Rattle.cc_ops.specs.Rounds.{is_of, kind_of, picked, spared, first_round, line_behind}
use Rattle.cc_ops.specs.WaitingAsks.{has_session}
use Rattle.cc_sessions.specs.Sessions.{last_request}
use Rattle.cc_node.specs.Core.{Core, quorum, asked_of, asks_anew, anew_if, next}
use Rattle.cc_node.specs.Lawful.{IsLawfulCore}
use Rattle.cc_node.specs.Node.{Node, step, after, IsLawful}
use Rattle.cc_node.specs.Openings.{fresh}
use Rattle.cc_node.specs.Histories.{lawful_parts}
use Rattle.cc_node.specs.Refusals.{decides}
use Rattle.cc_node.proofs.FreshLaws.{fresh_lawful, after_lawful}
use Rattle.cc_laws.specs.Clusters.{Member}
use Rattle.cc_laws.specs.Regular.{RoundOf, Counted, phase_in, HasAsked, IsRoundFor}
use Rattle.cc_laws.specs.Rounds.{awaits_views, awaits_acks, lacks_one, counts, ends_round, with_peer, peers_along}
use Rattle.cc_laws.proofs.Lists.{either, all_both, all_at}
use Rattle.cc_laws.proofs.RoundResults.{stores_back, awaits_more, of_ack, of_reply}
use Rattle.cc_laws.proofs.Members.{IsSound, lawful_front}
use Rattle.cc_laws.proofs.Places.{at_same, at_before, at_behind, split_order, after_parts}
use Rattle.cc_laws.proofs.AnswerRounds.{request_new, last_next, asked_none, asked_last}

abbrev IsApart : ℕ → ℕ → Asked → Type 0
IsApart s r a = a.session ≡ s → a.request ≡ r → ⊥

abbrev NotAsked : ℕ → ℕ → List Asked → Type 0
NotAsked s r asks = AllByRecursion (IsApart s r) asks

not_asked : (s r : ℕ) (asks : List Asked) → NotAsked s r asks → HasAsked asks s r → ⊥
not_asked s r asks none has = all_at (IsApart s r) asks has.0 none has.1 has.2 has.3

none_of_session : (s r : ℕ) (asks : List Asked) → has_session s asks ≡ false → NotAsked s r asks
none_of_session s r [] none = tt
none_of_session s r (a ∷ asks) none =
    let parts = or_parts _ _ none in (λ is _. eqb-false s a.session parts.0 (sym is), none_of_session s r asks parts.1)

picked_apart : (s r : ℕ) (kind : Bool) (n : ℕ) (asks : List Asked) → NotAsked s r asks → NotAsked s r (picked kind n asks)
picked_apart s r kind zero asks none = tt
picked_apart s r kind (suc n) [] none = tt
picked_apart s r kind (suc n) (a ∷ asks) none =
    either (NotAsked s r) (is_of kind a) (a ∷ picked kind n asks) (picked kind (suc n) asks)
    (none.0, picked_apart s r kind n asks none.1) (picked_apart s r kind (suc n) asks none.1)

spared_apart : (s r : ℕ) (kind : Bool) (n : ℕ) (asks : List Asked) → NotAsked s r asks → NotAsked s r (spared kind n asks)
spared_apart s r kind zero asks none = none
spared_apart s r kind (suc n) [] none = tt
spared_apart s r kind (suc n) (a ∷ asks) none =
    either (NotAsked s r) (is_of kind a) (spared kind n asks) (a ∷ spared kind (suc n) asks)
    (spared_apart s r kind n asks none.1) (none.0, spared_apart s r kind (suc n) asks none.1)

round_apart : (s r share : ℕ) (line : List Asked) → NotAsked s r line → NotAsked s r (first_round share line) × NotAsked s r (line_behind share line)
round_apart s r zero line none = (tt, none)
round_apart s r (suc n) [] none = (tt, tt)
round_apart s r (suc n) (a ∷ line) none = ((none.0, picked_apart s r (kind_of a) n line none.1), spared_apart s r (kind_of a) n line none.1)

-- ---- the round has ended

-- what was queried is stored back
abbrev IsBack : Bool → Phase → Type 0
IsBack true phase = awaits_views phase ≡ false
IsBack false phase = ⊥

-- the round that ended queried, or it stored; no ask of the request waits
abbrev Over : Bool → ℕ → ℕ → Ops → Type 0
Over views s r o = NotAsked s r o.line × (IsBack views o.phase ⊎ NotAsked s r (pending o))

is_back : (views : Bool) (p q : Phase) → awaits_views q ≡ awaits_views p → IsBack views p → IsBack views q
is_back true p q same h = same ∙ h
is_back false p q same h = h

never_back : (views : Bool) (p : Pending) → IsBack views (Querying p) → ⊥
never_back true p is = false≢true (sym is)
never_back false p is = is

over_same : (views : Bool) (s r : ℕ) (o t : Ops) → t.line ≡ o.line → pending t ≡ pending o → awaits_views t.phase ≡ awaits_views o.phase
    → Over views s r o → Over views s r t
over_same views s r o t line asks awaited h = (
  subst (NotAsked s r) (sym line) h.0,
  elim h.1 as (λ _. IsBack views t.phase ⊎ NotAsked s r (pending t)) [
    | inl back ↦ inl (is_back views o.phase t.phase awaited back)
    | inr none ↦ inr (subst (NotAsked s r) (sym asks) none)
  ],
)

over_last : (views : Bool) (s r me quorum : ℕ) (o : Ops) → NotAsked s r o.line → Over views s r (after_last me quorum o)
over_last views s r me quorum o none =
    let parts = round_apart s r o.share o.line none in
    let asks = first_round o.share o.line in
    let left = record o { line = line_behind o.share o.line } in (
      subst (NotAsked s r) (sym (round_line me quorum asks left)) parts.1,
      inr (subst (NotAsked s r) (sym (round_pending me quorum asks left)) parts.0),
    )

module _ (views : Bool) (s r : ℕ) where
  reply_over : (quorum : ℕ) (v : ViewMap) (o : Ops) (phase : Phase) → o.phase ≡ phase → Over views s r o → Over views s r (after_reply quorum v phase o)
  reply_over quorum v o (Querying p) is h =
      of_reply (Over views s r) quorum v p o
      (elim h.1 as (λ _. Over views s r (stores_back quorum v p o)) [
        | inl back ↦ absurd (never_back views p (subst (IsBack views) is back))
        | inr none ↦ (h.0, inr (subst (NotAsked s r) (sym asks) none))
      ])
      (over_same views s r o (awaits_more v p o) refl asks (sym (ap awaits_views is)) h)
    where
      asks : p.asked ∷ o.others ≡ pending o
      asks = ap (λ (f : Phase). asked_in f ++ o.others) (sym is)
  reply_over quorum v o _ is h = h

  ack_over : (me quorum : ℕ) (o : Ops) (phase : Phase) → o.phase ≡ phase → Over views s r o → Over views s r (after_ack me quorum phase o)
  ack_over me quorum o (Storing p) is h =
      of_ack (Over views s r) me quorum p (Storing (counted p)) o (over_last views s r me quorum o h.0)
      (over_same views s r o (record o { phase = Storing (counted p) }) refl (ap (λ (f : Phase). asked_in f ++ o.others) (sym is)) (sym (ap awaits_views is)) h)
  ack_over me quorum o (StoringBack p seen) is h =
      of_ack (Over views s r) me quorum p (StoringBack (counted p) seen) o (over_last views s r me quorum o h.0)
      (over_same views s r o (record o { phase = StoringBack (counted p) seen }) refl (ap (λ (f : Phase). asked_in f ++ o.others) (sym is))
      (sym (ap awaits_views is)) h)
  ack_over me quorum o _ is h = h

  message_over : (me quorum : ℕ) (m : Message) (o : Ops) → Over views s r o → Over views s r (after_message me quorum m o)
  message_over me quorum (message.QueryReply v tag q) o h =
      either (Over views s r) (is_own me tag q o) (after_reply quorum v o.phase o) o (reply_over quorum v o o.phase refl h) h
  message_over me quorum (message.StoreAck tag q) o h =
      either (Over views s r) (is_own me tag q o) (after_ack me quorum o.phase o) o (ack_over me quorum o o.phase refl h) h
  message_over me quorum _ o h = h

  anew_over : (b : Bool) (q : ℕ) (o : Ops) → Over views s r o → Over views s r (anew_if b q o)
  anew_over true q o h =
      over_same views s r o (anew q o) refl (λ i. asked_again q o.phase i ++ o.others) (awaited_again q o.phase) h
  anew_over false q o h = h

  ask_over : (me quorum : ℕ) (a : Asked) (o : Ops) → IsApart s r a → Over views s r o → Over views s r (after_ask me quorum a o)
  ask_over me quorum a o apart h =
      either (Over views s r) (is_idle o.phase) (begin_round me quorum (a ∷ []) o) (record o { line = o.line ++ a ∷ [] }) (
        subst (NotAsked s r) (sym (round_line me quorum (a ∷ []) o)) h.0,
        inr (subst (NotAsked s r) (sym (round_pending me quorum (a ∷ []) o)) (apart, tt)),
      )
      (all_both (IsApart s r) o.line (a ∷ []) h.0 (apart, tt), h.1)

  next_over : (c : Core) (e : Event) → decides c e ≡ None → r ≤ last_request c.sessions s → Over views s r c.ops → Over views s r (next c e).ops
  unfolding next
  next_over c (event.Deliver from n m) d last h =
      anew_over (asks_anew c from n m) _ (after_message c.me (quorum c) m c.ops) (message_over c.me (quorum c) m c.ops h)
  next_over c (event.Ask x y k) d last h = ask_over c.me (quorum c) (asked_of x y k) c.ops apart h
    where
      apart : IsApart s r (asked_of x y k)
      apart session request =
          omega (arith, subst (λ (z : ℕ). last_request c.sessions z < y) session (request_new c x y k d), request, last)
  next_over c _ d last h = h

  over_along : (n : Node) (es : List Event) → IsLawful n es → r ≤ last_request n.core.sessions s → Over views s r n.core.ops
      → Over views s r (after n es).core.ops
  unfolding step
  over_along n [] d last h = h
  over_along n (e ∷ es) d last h =
      over_along (step n e) es d.1 (omega (arith, last, last_next n.core e s d.0)) (next_over n.core e d.0 last h)

  -- ---- it ends

  query_ends : (quorum : ℕ) (v : ViewMap) (o : Ops) (b : Bool) (phase : Phase) → awaits_views phase ≡ views → ((b && awaits_views phase) && lacks_one phase) ≡ true
      → NotAsked s r o.line → Over views s r (if b then after_reply quorum v phase o else o)
  query_ends quorum v o false phase kind ends none = absurd (false≢true ends)
  query_ends quorum v o true (Querying p) kind ends none =
      subst (λ (b : Bool). Over views s r (if b then stores_back quorum v p o else awaits_more v p o)) (sym ends)
      (none, inl (subst (λ (w : Bool). IsBack w (StoringBack (round_of quorum p.asked) (merge o.view v))) kind refl))
  query_ends quorum v o true _ kind ends none = absurd (false≢true ends)

  store_ends : (me quorum : ℕ) (o : Ops) (b : Bool) (phase : Phase) → ((b && awaits_acks phase) && lacks_one phase) ≡ true
      → NotAsked s r o.line → Over views s r (if b then after_ack me quorum phase o else o)
  store_ends me quorum o false phase ends none = absurd (false≢true ends)
  store_ends me quorum o true (Storing p) ends none =
      subst (λ (b : Bool). Over views s r (if b then after_last me quorum o else record o { phase = Storing (counted p) })) (sym ends)
      (over_last views s r me quorum o none)
  store_ends me quorum o true (StoringBack p seen) ends none =
      subst (λ (b : Bool). Over views s r (if b then after_last me quorum o else record o { phase = StoringBack (counted p) seen })) (sym ends)
      (over_last views s r me quorum o none)
  store_ends me quorum o true _ ends none = absurd (false≢true ends)

  message_ends : (c : Core) (from n : ℕ) (m : Message) → awaits_views c.ops.phase ≡ views → ends_round c (event.Deliver from n m) ≡ true
      → NotAsked s r c.ops.line → Over views s r (next c (event.Deliver from n m)).ops
  unfolding next
  message_ends c from n (message.QueryReply v tag q) kind ends none =
      query_ends (quorum c) v c.ops (is_own c.me tag q c.ops) c.ops.phase kind ends none
  message_ends c from n (message.StoreAck tag q) kind ends none =
      store_ends c.me (quorum c) c.ops (is_own c.me tag q c.ops) c.ops.phase ends none
  message_ends c from n _ kind ends none = absurd (false≢true ends)

  round_over : (c : Core) (e : Event) → IsLawfulCore c → awaits_views c.ops.phase ≡ views → ends_round c e ≡ true → HasAsked (pending c.ops) s r
      → Over views s r (next c e).ops
  round_over c (event.Deliver from n m) lawful kind ends asked =
      message_ends c from n m kind ends (none_of_session s r c.ops.line (asked_none s r (pending c.ops) c.ops.line lawful.line.apart asked))
  round_over c _ lawful kind ends asked = absurd (false≢true ends)

  back_apart : (phase : Phase) → awaits_views phase ≡ views → IsBack views phase → ⊥
  back_apart phase kind is = apart views kind is
    where
      apart : (w : Bool) → awaits_views phase ≡ w → IsBack w phase → ⊥
      apart true kind is = false≢true (sym is ∙ kind)
      apart false kind is = is

  -- ---- of one member

  module _ (q : ℕ) (m : Member) (sound : IsSound q m) where
    pub record IsOf (round : RoundOf m) : Type 0 where
      pub kind : awaits_views (phase_in m round) ≡ views
      pub asked : IsRoundFor m round s r

    abbrev start : Node
    start = fresh m.opening

    no_other : (first second : RoundOf m) → IsOf first → IsOf second → (more : List Event) → second.before ≡ first.before ++ first.last ∷ more → ⊥
    unfolding step
    no_other first second of_first of_second more behind =
        let lawful = lawful_front start m.events m.released sound.lawful in
        let to_second = (lawful_parts start second.before (second.last ∷ second.later) (subst (IsLawful start) second.parts lawful)).0 in
        let split = lawful_parts start first.before (first.last ∷ more) (subst (IsLawful start) behind to_second) in
        let n = after start first.before in
        let core = (after_lawful start first.before split.0 (fresh_lawful m.opening sound.opening)).core in
        let last : last_request n.core.sessions s ≡ r = asked_last n.core core s r of_first.asked in
        let rises = last_next n.core first.last s split.1.0 in
        let over = over_along (step n first.last) more split.1.1 (omega (arith, last, rises))
        (round_over n.core first.last core of_first.kind first.ends of_first.asked) in
        let there : Over views s r (after start second.before).core.ops =
        subst (λ (k : Node). Over views s r k.core.ops) (sym (after_parts start second.before first.before (first.last ∷ more) behind)) over in
        elim there.1 as (λ _. ⊥) [
          | inl back ↦ back_apart (phase_in m second) of_second.kind back
          | inr none ↦ not_asked s r (pending (after start second.before).core.ops) none of_second.asked
        ]

    one_round : (first second : RoundOf m) → IsOf first → IsOf second → (first.before ≡ second.before) × (first.last ≡ second.last)
    one_round first second of_first of_second =
        elim (split_order first.before first.later second.before second.later first.last second.last (sym first.parts ∙ second.parts))
        as (λ _. (first.before ≡ second.before) × (first.last ≡ second.last)) [
          | at_same before last ↦ (before, last)
          | at_before more behind ↦ absurd (no_other first second of_first of_second more behind)
          | at_behind more behind ↦ absurd (no_other second first of_second of_first more behind)
        ]

    pub same_counted : (first second : RoundOf m) → IsOf first → IsOf second → (peer : ℕ) → Counted m first peer → Counted m second peer
    same_counted first second of_first of_second peer counted =
        let one = one_round first second of_first of_second in
        subst (λ (b : List Event). Contains (with_peer (counts (after start b).core second.last) (peers_along start [] b)) peer) one.0
        (subst (λ (e : Event). Contains (with_peer (counts (after start first.before).core e) (peers_along start [] first.before)) peer) one.1 counted)
