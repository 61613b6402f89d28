-- What a pending round says of the events behind it: where it began, or began anew, and what its counted answers told.
--     HasAck, HasReply      an acknowledgement, or a reply to a query, came from a node
--     Raised                an event raised the tag, and of the core after it something holds
--     ReadBefore            a query ended, and this was seen with it
--     Pends, pends          each of these holds of the round that pends after a list of events
use Rattle.std.proofs.Common.{◌≡◌, ℕ, ◌+◌, ◌<◌, ◌≤◌, Bool, true, false, List, ◌∷◌, ◌++◌, refl, sym, ap, subst, ◌∙◌, arith, append_assoc, []}
use Rattle.std.specs.Prelude.{◌&&◌, ◌||◌, ◌==◌, not, Option, Some, None, IsSomeAnd, if◌then◌else◌}
use Rattle.std.specs.Bool.{then_some}
use Rattle.std.specs.List.{Contains, AllByRecursion}
use Rattle.std.specs.FinMap as table
use Rattle.std.proofs.lemmas.Bool.{and_parts, and_from, eqb-true}
use Rattle.std.proofs.lemmas.List.{append-nil}
use Rattle.std.proofs.lemmas.List.Elements.{Contains-append_left, Contains-push}
use Rattle.cc_views.specs.Rows.{Pair, ViewMap}
use Rattle.cc_views.specs.Merge.{merge, IsKept, IsAtMost}
use Rattle.cc_views.specs.MergeLaws.{at_most_same, at_most_merge, at_most_trans, merged_at_most}
use Rattle.cc_messages.specs.declared.event.Event.{Event}
use Rattle.cc_messages.specs.declared.event.Event.TheVariants as event
use Rattle.cc_messages.specs.declared.message.Message.{Message}
use Rattle.cc_messages.specs.declared.message.Message.TheVariants as message
use Rattle.cc_ops.specs.declared.pending_operation.Asked.{Asked}
use Rattle.cc_ops.specs.declared.pending_operation.Pending.{Pending}
use Rattle.cc_ops.specs.Rounds.{first_round, line_behind}
use Rattle.cc_ops.specs.WaitingAsks.{writes_by}
use Rattle.cc_ops.specs.Ops.{Ops, Phase, Idle, Storing, Querying, StoringBack, is_idle, is_last, is_own, round_of, counted, merged, next_round, begin_round}
use Rattle.cc_ops.specs.Ops.{with_begun, after_reply, after_last, after_ack, again, asked_in, pending}
use Rattle.cc_churn.specs.Churn as churn
use Rattle.cc_node.specs.Core.{Core, quorum, asked_of, skips, churn_told, anew_if, next}
use Rattle.cc_node.specs.Node.{Node, step, after}
use Rattle.cc_node.specs.Openings.{Opening, fresh}
use Rattle.cc_laws.specs.Regular.{HasAtLeast}
use Rattle.cc_laws.specs.Rounds.{awaits_views, awaits_acks, lacks_one, ends_round, begins_anew, with_peer, peers_next, peers_along}
use Rattle.cc_laws.proofs.Lists.{all_changed}
use Rattle.cc_laws.proofs.Places.{after_push, Place, place_in}
use Rattle.cc_laws.proofs.Says.{stored_of}
use Rattle.cc_laws.proofs.Steps.{me_next, row_of}
use Rattle.cc_laws.proofs.RoundResults.{of_round}
use Rattle.cc_laws.proofs.OwnRows.{get_own_row}

abbrev pub HasAck : List Event → ℕ → ℕ → ℕ → Type 0
HasAck past me tag r = (n : ℕ) × Contains past (event.Deliver r n (message.StoreAck tag me))

abbrev pub HasReply : List Event → ℕ → ℕ → ViewMap → ℕ → Type 0
HasReply past me tag view r = (n : ℕ) × (v : ViewMap) × Contains past (event.Deliver r n (message.QueryReply v tag me)) × IsAtMost v view

pub record Raised (start : Node) (past : List Event) (tag : ℕ) (Q : Core → Type 0) : Type 0 where
  pub place : Place past
  pub open place use *
  pub under : (after start before).core.ops.tag < tag
  pub raised : (after start (before ++ here ∷ [])).core.ops.tag ≡ tag
  pub holds : Q (after start (before ++ here ∷ [])).core

pub record ReadBefore (start : Node) (past : List Event) (asks : List Asked) (seen : ViewMap) : Type 0 where
  pub place : Place past
  pub open place use *
  pub query : Pending
  pub querying : (after start before).core.ops.phase ≡ Querying query
  pub same : pending (after start before).core.ops ≡ asks
  pub ends : ends_round (after start before).core here ≡ true
  pub saw : (after start (before ++ here ∷ [])).core.ops.view ≡ seen

abbrev pub IsQueryOf : List Asked → Core → Type 0
IsQueryOf asks c = (p : Pending) × (c.ops.phase ≡ Querying p) × (pending c.ops ≡ asks)

abbrev pub Pends : Node → List Event → List ℕ → ℕ → ℕ → ViewMap → ℕ → List Asked → Phase → Type 0
Pends start past peers me number view tag others Idle = peers ≡ []
Pends start past peers me number view tag others (Storing p) =
    Raised start past tag (λ c. HasAtLeast (stored_of c.ops) me number) × AllByRecursion (HasAck past me tag) peers × HasAtLeast view me number
Pends start past peers me number view tag others (Querying p) =
    Raised start past tag (IsQueryOf (p.asked ∷ others)) × AllByRecursion (HasReply past me tag view) peers
Pends start past peers me number view tag others (StoringBack p seen) =
    Raised start past tag (λ c. stored_of c.ops ≡ seen) × AllByRecursion (HasAck past me tag) peers × ReadBefore start past (p.asked ∷ others) seen

abbrev pub PendsIn : Node → List Event → List ℕ → ℕ → Ops → Type 0
PendsIn start past peers me s = Pends start past peers me s.number s.view s.tag s.others s.phase

abbrev pub PendsAt : Node → List Event → List ℕ → Type 0
PendsAt start past peers = PendsIn start past peers (after start past).core.me (after start past).core.ops

-- ---- rows

pub least_kept : (a b : Option Pair) (k : ℕ) → IsKept a b → IsSomeAnd a (λ e. k ≤ e.0) → IsSomeAnd b (λ e. k ≤ e.0)
least_kept None b k h l = absurd l
least_kept (Some p) None k h l = absurd h
least_kept (Some p) (Some q) k h l = omega (arith, h, l)

pub least_more : (v w : ViewMap) (q k : ℕ) → IsAtMost v w → HasAtLeast v q k → HasAtLeast w q k
least_more v w q k h l = least_kept (table.get v q) (table.get w q) k (h q) l

own_least : (me : ℕ) (s : Ops) (asks : List Asked) → HasAtLeast (merge s.view (row_of me s asks)) me (s.number + writes_by asks)
own_least me s asks =
    let row = row_of me s asks in
    subst (λ (o : Option Pair). IsKept o (table.get (merge s.view row) me)) (get_own_row me s asks) (merged_at_most s.view row me)

-- ---- own answers

pub own_parts : (me tag q : ℕ) (s : Ops) → is_own me tag q s ≡ true → (q ≡ me) × (tag ≡ s.tag)
own_parts me tag q s is =
    let parts = and_parts (q == me) (tag == s.tag) is in
    (eqb-true q me parts.0, eqb-true tag s.tag parts.1)

pub ack_is : (from n me tag q : ℕ) (s : Ops) → is_own me tag q s ≡ true
    → event.Deliver from n (message.StoreAck tag q) ≡ event.Deliver from n (message.StoreAck s.tag me)
ack_is from n me tag q s is = let own = own_parts me tag q s is in λ i. event.Deliver from n (message.StoreAck (own.1 i) (own.0 i))

pub reply_is : (from n me tag q : ℕ) (v : ViewMap) (s : Ops) → is_own me tag q s ≡ true
    → event.Deliver from n (message.QueryReply v tag q) ≡ event.Deliver from n (message.QueryReply v s.tag me)
reply_is from n me tag q v s is = let own = own_parts me tag q s is in λ i. event.Deliver from n (message.QueryReply v (own.1 i) (own.0 i))

-- ---- one event more

module _ (start : Node) (past : List Event) (e : Event) where
  abbrev now : List Event
  now = past ++ e ∷ []

  pub core_push : (after start now).core ≡ next (after start past).core e
  unfolding step
  core_push = ap (λ (n : Node). n.core) (after_push start past e)

  raised_more : (tag : ℕ) (Q : Core → Type 0) → Raised start past tag Q → Raised start now tag Q
  raised_more tag Q r =
      record { place = place_in now past (e ∷ []) refl r.place; under = r.under; raised = r.raised; holds = r.holds }

  read_more : (asks : List Asked) (seen : ViewMap) → ReadBefore start past asks seen → ReadBefore start now asks seen
  read_more asks seen r = record {
    place = place_in now past (e ∷ []) refl r.place;
    query = r.query;
    querying = r.querying;
    same = r.same;
    ends = r.ends;
    saw = r.saw;
  }

  abbrev last_place : Place now
  last_place = record { before = past; here = e; later = []; parts = refl }

  pub acks_more : (me tag : ℕ) (peers : List ℕ) → AllByRecursion (HasAck past me tag) peers → AllByRecursion (HasAck now me tag) peers
  acks_more me tag peers h = all_changed (HasAck past me tag) (HasAck now me tag) (λ r a. (a.0, Contains-append_left past (e ∷ []) _ a.1)) peers h

  pub replies_more : (me tag : ℕ) (view wider : ViewMap) (peers : List ℕ) → IsAtMost view wider → AllByRecursion (HasReply past me tag view) peers
      → AllByRecursion (HasReply now me tag wider) peers
  replies_more me tag view wider peers le h =
      all_changed (HasReply past me tag view) (HasReply now me tag wider)
      (λ r a. (a.0, a.1, Contains-append_left past (e ∷ []) _ a.2, at_most_trans a.1 view wider a.3 le)) peers h

  pends_more : (peers : List ℕ) (me number : ℕ) (view wider : ViewMap) (tag : ℕ) (others : List Asked) (phase : Phase) → IsAtMost view wider
      → Pends start past peers me number view tag others phase → Pends start now peers me number wider tag others phase
  pends_more peers me number view wider tag others Idle le h = h
  pends_more peers me number view wider tag others (Storing p) le h =
      (raised_more tag (λ c. HasAtLeast (stored_of c.ops) me number) h.0, acks_more me tag peers h.1, least_more view wider me number le h.2)
  pends_more peers me number view wider tag others (Querying p) le h =
      (raised_more tag (IsQueryOf (p.asked ∷ others)) h.0, replies_more me tag view wider peers le h.1)
  pends_more peers me number view wider tag others (StoringBack p seen) le h =
      (raised_more tag (λ c. stored_of c.ops ≡ seen) h.0, acks_more me tag peers h.1, read_more (p.asked ∷ others) seen h.2)

  -- the round is as it was
  same_pends : (peers : List ℕ) (me : ℕ) (s : Ops) (phase : Phase) → s.phase ≡ phase → Pends start past peers me s.number s.view s.tag s.others phase
      → Pends start now peers me s.number s.view s.tag s.others s.phase
  same_pends peers me s phase is h =
      subst (Pends start now peers me s.number s.view s.tag s.others) (sym is)
      (pends_more peers me s.number s.view s.view s.tag s.others phase (at_most_same s.view) h)

  module _ (c : Core) (at : c ≡ (after start past).core) where
    raise_now : (tag : ℕ) (Q : Core → Type 0) → c.ops.tag < tag → (next c e).ops.tag ≡ tag → Q (next c e) → Raised start now tag Q
    raise_now tag Q under is holds =
        let pushed : next c e ≡ (after start now).core = ap (λ (d : Core). next d e) at ∙ sym core_push in
        record {
          place = last_place;
          under = subst (λ (d : Core). d.ops.tag < tag) at under;
          raised = ap (λ (d : Core). d.ops.tag) (sym pushed) ∙ is;
          holds = subst Q pushed holds;
        }

    -- a round begins, if there is one
    begins : (me quorum : ℕ) (asks : List Asked) (s : Ops) → s.tag ≡ c.ops.tag → (next c e).ops ≡ begin_round me quorum asks s
        → PendsIn start now [] me (begin_round me quorum asks s)
    begins me quorum [] s old is = refl
    begins me quorum (a ∷ others) s old next_is =
        let asks = a ∷ others in
        let under : c.ops.tag < s.tag + 1 = omega (arith, old) in
        of_round (λ t. (next c e).ops ≡ t → PendsIn start now [] me t) me quorum a others s
        (λ _ is. (
          raise_now (s.tag + 1) (λ d. HasAtLeast (stored_of d.ops) me (s.number + writes_by asks)) under (ap (λ (t : Ops). t.tag) is)
              (subst (λ (t : Ops). HasAtLeast (stored_of t) me (s.number + writes_by asks)) (sym is) (own_least me s asks)),
          tt,
          own_least me s asks,
        ))
        (λ _ is. (
          raise_now (s.tag + 1) (IsQueryOf asks) under (ap (λ (t : Ops). t.tag) is)
              (round_of quorum a, ap (λ (t : Ops). t.phase) is, ap pending is),
          tt,
        )) next_is

    ends : (me quorum : ℕ) (s : Ops) → s.tag ≡ c.ops.tag → (next c e).ops ≡ after_last me quorum s → PendsIn start now [] me (after_last me quorum s)
    ends me quorum s old is = begins me quorum (first_round s.share s.line) (record s { line = line_behind s.share s.line }) old is

    module _ (from n : ℕ) where
      ack_pends : (me quorum tag q : ℕ) (peers : List ℕ) (s : Ops) → s.tag ≡ c.ops.tag → e ≡ event.Deliver from n (message.StoreAck tag q) → (b : Bool)
          → is_own me tag q s ≡ b
          → (phase : Phase) → s.phase ≡ phase → (next c e).ops ≡ (if b then after_ack me quorum phase s else s)
          → Pends start past peers me s.number s.view s.tag s.others phase
          → PendsIn start now (if (b && awaits_acks phase) && lacks_one phase then [] else with_peer (then_some (b && awaits_acks phase) from) peers) me
          (if b then after_ack me quorum phase s else s)
      ack_pends me quorum tag q peers s old it false own phase is next_is h = same_pends peers me s phase is h
      ack_pends me quorum tag q peers s old it true own Idle is next_is h = same_pends peers me s Idle is h
      ack_pends me quorum tag q peers s old it true own (Storing p) is next_is h =
          let L = after_last me quorum s in
          let M = record s { phase = Storing (counted p) } in
          elim (is_last p) as (λ b. (next c e).ops ≡ (if b then L else M) → PendsIn start now (if b then [] else from ∷ peers) me (if b then L else M)) [
            | true ↦ λ now_is. ends me quorum s old now_is
            | false ↦ λ _. (
              raised_more s.tag (λ d. HasAtLeast (stored_of d.ops) me s.number) h.0,
              ((n, subst (Contains now) (it ∙ ack_is from n me tag q s own) (Contains-push past e)), acks_more me s.tag peers h.1),
              h.2,
            )
          ] next_is
      ack_pends me quorum tag q peers s old it true own (Querying p) is next_is h = same_pends peers me s (Querying p) is h
      ack_pends me quorum tag q peers s old it true own (StoringBack p seen) is next_is h =
          let L = after_last me quorum s in
          let M = record s { phase = StoringBack (counted p) seen } in
          elim (is_last p) as (λ b. (next c e).ops ≡ (if b then L else M) → PendsIn start now (if b then [] else from ∷ peers) me (if b then L else M)) [
            | true ↦ λ now_is. ends me quorum s old now_is
            | false ↦ λ _. (
              raised_more s.tag (λ d. stored_of d.ops ≡ seen) h.0,
              ((n, subst (Contains now) (it ∙ ack_is from n me tag q s own) (Contains-push past e)), acks_more me s.tag peers h.1),
              read_more (p.asked ∷ s.others) seen h.2,
            )
          ] next_is

      reply_pends : (me quorum tag q : ℕ) (v : ViewMap) (peers : List ℕ) (s : Ops) → s ≡ c.ops → e ≡ event.Deliver from n (message.QueryReply v tag q)
          → (b : Bool) → is_own me tag q s ≡ b
          → (ends_round c e ≡ ((is_own me tag q s && awaits_views s.phase) && lacks_one s.phase))
          → (phase : Phase) → s.phase ≡ phase → (next c e).ops ≡ (if b then after_reply quorum v phase s else s)
          → Pends start past peers me s.number s.view s.tag s.others phase
          → PendsIn start now (if (b && awaits_views phase) && lacks_one phase then [] else with_peer (then_some (b && awaits_views phase) from) peers) me
          (if b then after_reply quorum v phase s else s)
      reply_pends me quorum tag q v peers s old it false own test phase is next_is h = same_pends peers me s phase is h
      reply_pends me quorum tag q v peers s old it true own test Idle is next_is h = same_pends peers me s Idle is h
      reply_pends me quorum tag q v peers s old it true own test (Storing p) is next_is h = same_pends peers me s (Storing p) is h
      reply_pends me quorum tag q v peers s old it true own test (Querying p) is next_is h =
          let L = next_round (StoringBack (round_of quorum p.asked) (merge s.view v)) (merged v s) in
          let M = record (merged v s) { phase = Querying (counted p) } in
          let under : c.ops.tag < s.tag + 1 = omega (arith, ap (λ (t : Ops). t.tag) old) in
          elim (is_last p)
          as (λ b. is_last p ≡ b → (next c e).ops ≡ (if b then L else M) → PendsIn start now (if b then [] else from ∷ peers) me (if b then L else M)) [
            | true ↦ λ last now_is. (
              raise_now (s.tag + 1) (λ d. stored_of d.ops ≡ merge s.view v) under (ap (λ (t : Ops). t.tag) now_is) (ap stored_of now_is),
              tt,
              record {
                place = last_place;
                query = p;
                querying = ap (λ (d : Core). d.ops.phase) (sym at) ∙ ap (λ (t : Ops). t.phase) (sym old) ∙ is;
                same = ap (λ (d : Core). pending d.ops) (sym at) ∙ ap pending (sym old) ∙ ap (λ (f : Phase). asked_in f ++ s.others) is;
                ends = subst (λ (d : Core). ends_round d e ≡ true) at (test ∙ and_from _ _ (and_from _ _ own (ap awaits_views is)) (ap lacks_one is ∙ last));
                saw = ap (λ (d : Core). d.ops.view) core_push ∙ ap (λ (d : Core). (next d e).ops.view) (sym at) ∙ ap (λ (t : Ops). t.view) now_is;
              },
            )
            | false ↦ λ _ _. (
              raised_more s.tag (IsQueryOf (p.asked ∷ s.others)) h.0,
              (
                (n, v, subst (Contains now) (it ∙ reply_is from n me tag q v s own) (Contains-push past e), merged_at_most s.view v),
                replies_more me s.tag s.view (merge s.view v) peers (at_most_merge s.view v) h.1,
              ),
            )
          ] refl next_is
      reply_pends me quorum tag q v peers s old it true own test (StoringBack p seen) is next_is h = same_pends peers me s (StoringBack p seen) is h

    ask_pends : (me quorum : ℕ) (a : Asked) (line : List Asked) (peers : List ℕ) (s : Ops) → s.tag ≡ c.ops.tag → (phase : Phase) → s.phase ≡ phase
        → (next c e).ops ≡ (if is_idle phase then with_begun me quorum a s else record s { line = line })
        → Pends start past peers me s.number s.view s.tag s.others phase
        → PendsIn start now peers me (if is_idle phase then with_begun me quorum a s else record s { line = line })
    ask_pends me quorum a line peers s old Idle is next_is h =
        subst (λ (ps : List ℕ). PendsIn start now ps me (with_begun me quorum a s)) (sym h) (begins me quorum (a ∷ []) s old next_is)
    ask_pends me quorum a line peers s old (Storing p) is next_is h = same_pends peers me s (Storing p) is h
    ask_pends me quorum a line peers s old (Querying p) is next_is h = same_pends peers me s (Querying p) is h
    ask_pends me quorum a line peers s old (StoringBack p seen) is next_is h = same_pends peers me s (StoringBack p seen) is h

    -- the pending phase begins anew, with what a snapshot brings; what is stored back stays
    anew_pends : (me quorum : ℕ) (v : ViewMap) (s : Ops) (peers : List ℕ) → s.tag ≡ c.ops.tag → (phase : Phase) → s.phase ≡ phase
        → is_idle phase ≡ false
        → (next c e).ops ≡ next_round (again quorum phase) (merged v s)
        → Pends start past peers me s.number s.view s.tag s.others phase
        → PendsIn start now [] me (next_round (again quorum phase) (merged v s))
    anew_pends me quorum v s peers old Idle is busy next_is h = cc
    anew_pends me quorum v s peers old (Storing p) is busy next_is h =
        let own : HasAtLeast (merge s.view v) me s.number = least_more s.view (merge s.view v) me s.number (at_most_merge s.view v) h.2 in (
          raise_now (s.tag + 1) (λ d. HasAtLeast (stored_of d.ops) me s.number) (omega (arith, old)) (ap (λ (t : Ops). t.tag) next_is)
              (subst (λ (t : Ops). HasAtLeast (stored_of t) me s.number) (sym next_is) own),
          tt,
          own,
        )
    anew_pends me quorum v s peers old (Querying p) is busy next_is h =
        let raised = raise_now (s.tag + 1) (IsQueryOf (p.asked ∷ s.others)) (omega (arith, old)) (ap (λ (t : Ops). t.tag) next_is)
        (round_of quorum p.asked, ap (λ (t : Ops). t.phase) next_is, ap pending next_is) in
        (raised, tt)
    anew_pends me quorum v s peers old (StoringBack p seen) is busy next_is h =
        let raised = raise_now (s.tag + 1) (λ d. stored_of d.ops ≡ seen) (omega (arith, old)) (ap (λ (t : Ops). t.tag) next_is) (ap stored_of next_is) in
        (raised, tt, read_more (p.asked ∷ s.others) seen h.2)

    snapshot_pends : (me quorum : ℕ) (v : ViewMap) (s : Ops) (peers : List ℕ) → s.tag ≡ c.ops.tag → (b may : Bool) → b ≡ (not (is_idle s.phase) && may)
        → (next c e).ops ≡ anew_if b quorum (merged v s)
        → Pends start past peers me s.number s.view s.tag s.others s.phase
        → PendsIn start now (if b || false then [] else peers) me (anew_if b quorum (merged v s))
    snapshot_pends me quorum v s peers old true may is next_is h =
        anew_pends me quorum v s peers old s.phase refl (busy (is_idle s.phase) is) next_is h
      where
        busy : (idle : Bool) → true ≡ (not idle && may) → idle ≡ false
        busy true k = cc
        busy false k = refl
    snapshot_pends me quorum v s peers old false may is next_is h =
        pends_more peers me s.number s.view (merge s.view v) s.tag s.others s.phase (at_most_merge s.view v) h

-- ---- any event

message_pends : (start : Node) (past : List Event) (peers : List ℕ) (from n : ℕ) (m : Message) (c : Core) → c ≡ (after start past).core
    → PendsIn start past peers c.me c.ops
    → PendsIn start (past ++ event.Deliver from n m ∷ []) (peers_next c (event.Deliver from n m) peers) c.me (next c (event.Deliver from n m)).ops
unfolding next
message_pends start past peers from n (message.EnterEcho d v j q) c at h =
    pends_more start past _ peers c.me c.ops.number c.ops.view (merge c.ops.view v) c.ops.tag c.ops.others c.ops.phase (at_most_merge c.ops.view v) h
message_pends start past peers from n (message.QueryReply v tag q) c at h =
    reply_pends start past (event.Deliver from n (message.QueryReply v tag q)) c at from n c.me (quorum c) tag q v peers c.ops refl refl
    (is_own c.me tag q c.ops) refl refl c.ops.phase refl refl h
message_pends start past peers from n (message.Store v tag q) c at h =
    pends_more start past _ peers c.me c.ops.number c.ops.view (merge c.ops.view v) c.ops.tag c.ops.others c.ops.phase (at_most_merge c.ops.view v) h
message_pends start past peers from n (message.StoreAck tag q) c at h =
    ack_pends start past (event.Deliver from n (message.StoreAck tag q)) c at from n c.me (quorum c) tag q peers c.ops refl refl
    (is_own c.me tag q c.ops) refl c.ops.phase refl refl h
message_pends start past peers from n (message.Snapshot d v) c at h =
    let e = event.Deliver from n (message.Snapshot d v) in
    snapshot_pends start past e c at c.me (churn.quorum c.beta (churn_told c from n (message.Snapshot d v))) v c.ops peers refl
    (begins_anew c e) ((from == c.me) || skips c from n) refl refl h
message_pends start past peers from n _ c at h = same_pends start past _ peers c.me c.ops c.ops.phase refl h

event_pends : (start : Node) (past : List Event) (peers : List ℕ) (e : Event) (c : Core) → c ≡ (after start past).core → PendsIn start past peers c.me c.ops
    → PendsIn start (past ++ e ∷ []) (peers_next c e peers) c.me (next c e).ops
unfolding next
event_pends start past peers (event.Deliver from n m) c at h = message_pends start past peers from n m c at h
event_pends start past peers (event.Ask s r command) c at h =
    ask_pends start past (event.Ask s r command) c at c.me (quorum c) (asked_of s r command)
    (c.ops.line ++ asked_of s r command ∷ []) peers c.ops refl c.ops.phase refl refl h
event_pends start past peers _ c at h = same_pends start past _ peers c.me c.ops c.ops.phase refl h

step_pends : (start : Node) (past : List Event) (peers : List ℕ) (e : Event) → PendsAt start past peers
    → PendsAt start (past ++ e ∷ []) (peers_next (after start past).core e peers)
step_pends start past peers e h =
    let c = (after start past).core in
    subst (λ (d : Core). PendsIn start (past ++ e ∷ []) (peers_next c e peers) d.me d.ops) (sym (core_push start past e))
    (subst (λ (me : ℕ). PendsIn start (past ++ e ∷ []) (peers_next c e peers) me (next c e).ops) (sym (me_next c e)) (event_pends start past peers e c refl h))

pends_along : (start : Node) (past es : List Event) (peers : List ℕ) → PendsAt start past peers
    → PendsAt start (past ++ es) (peers_along (after start past) peers es)
pends_along start past [] peers h = subst (λ (l : List Event). PendsAt start l peers) (sym (append-nil past)) h
pends_along start past (e ∷ es) peers h =
    let ps = peers_next (after start past).core e peers in
    subst (λ (l : List Event). PendsAt start l (peers_along (step (after start past) e) ps es)) (append_assoc past (e ∷ []) es)
    (subst (λ (n : Node). PendsAt start ((past ++ e ∷ []) ++ es) (peers_along n ps es)) (after_push start past e)
    (pends_along start (past ++ e ∷ []) es ps (step_pends start past peers e h)))

fresh_pends : (o : Opening) → PendsAt (fresh o) [] []
unfolding fresh
fresh_pends o = refl

pub pends : (o : Opening) (es : List Event) → PendsAt (fresh o) es (peers_along (fresh o) [] es)
pends o es = pends_along (fresh o) [] es [] (fresh_pends o)
