-- An answer that left a node: by which rounds of its operation it came about.
--     Ended, ended           the event that made the answer, and what pended before it
--     IsWriteOp, IsReadOp, either_op     it was of a writing round, or of a reading one
--     op_pends, op_writes, op_reads      it pended there, and its command wrote, or read
--     asked_last             each ask that pends is its session's last request
--     asked_none             a session that has one has none that waits behind it
--     StoredRound            a round in which a view was stored, of which something holds
--     ReadRound              a round in which a view was queried, with what was seen in it
--     number_reached         a writing ask that was answered was counted
use Rattle.std.proofs.Common.{◌≡◌, ◌⊎◌, ℕ, ◌+◌, ◌<◌, ◌≤◌, Bool, true, false, cond, nat_eq, List, [], ◌∷◌, ◌++◌, refl, sym, ap, subst, ◌∙◌, inl, inr, arith}
use Rattle.std.proofs.Common.{append_assoc}
use Rattle.std.specs.Prelude.{Option, Some, None, ◌&&◌, ◌==◌, is_some, if◌then◌else◌}
use Rattle.std.specs.Option.{unwrap_or}
use Rattle.std.specs.List.{Contains, AllByRecursion}
use Rattle.std.specs.FinMap as table
use Rattle.std.proofs.lemmas.Bool.{ltb-false, eqb-false, or_cases, or_parts, or_left, or_right, eq-eqb, both_ways}
use Rattle.std.proofs.lemmas.Bool.Decides.{eqb_tells}
use Rattle.std.proofs.lemmas.List.{append_cancel_left}
use Rattle.std.proofs.lemmas.List.Elements.{Contains-append_left}
use Rattle.std.proofs.lemmas.Option.{IfSome_then}
use Rattle.cc_views.specs.NatSets.{get-insert_key}
use Rattle.cc_views.specs.Rows.{ViewMap}
use Rattle.cc_views.specs.Merge.{IsAtMost}
use Rattle.cc_views.specs.MergeLaws.{at_most_trans}
use Rattle.cc_messages.specs.declared.answer.Answer.{Answer}
use Rattle.cc_messages.specs.declared.answer.Answer.TheVariants as answer
use Rattle.cc_messages.specs.declared.command.Command.{Command}
use Rattle.cc_messages.specs.declared.command.Command.TheVariants as command
use Rattle.cc_messages.specs.declared.event.Event.{Event}
use Rattle.cc_messages.specs.declared.event.Event.TheVariants as event
use Rattle.cc_messages.specs.declared.output.Output.TheVariants as output
use Rattle.cc_ops.specs.declared.pending_operation.Asked.{Asked}
use Rattle.cc_ops.specs.declared.pending_operation.Pending.{Pending}
use Rattle.cc_ops.specs.declared.pending_operation.Reply.{Reply}
use Rattle.cc_ops.specs.Commands.{is_writing, answer_of}
use Rattle.cc_ops.specs.Ops.{Phase, Storing, Querying, StoringBack, asked_in, pending, unanswered}
use Rattle.cc_ops.specs.Rounds.{is_of, of_kind}
use Rattle.cc_ops.specs.RoundLaws.{has_both, kind_both, writers_count}
use Rattle.cc_ops.specs.WaitingAsks.{has_session, AreApart, writes_by}
use Rattle.cc_ops.specs.WaitingAskLaws.{writes_both}
use Rattle.cc_sessions.specs.Sessions.{Requests, last_request}
use Rattle.cc_node.specs.Core.{Core, asked_of, next, replies, outputs}
use Rattle.cc_node.specs.Node.{Node, step, after, line, IsLawful}
use Rattle.cc_node.specs.Openings.{fresh}
use Rattle.cc_node.specs.Histories.{lawful_parts}
use Rattle.cc_node.specs.Lawful.{IsPhaseOf, IsBeside, IsLastOf, IsLawfulCore, IsLawfulNode}
use Rattle.cc_node.specs.Refusals.{decides}
use Rattle.cc_node.specs.Writes.{asked_along, begun_along}
use Rattle.cc_node.proofs.CoreLaws.{view_grows, own_number_along}
use Rattle.cc_node.proofs.FreshLaws.{fresh_lawful, after_lawful}
use Rattle.cc_node.proofs.KnownLaws.{all_last}
use Rattle.cc_node.proofs.OrderLaws.{begin_in_order}
use Rattle.cc_node.proofs.RefusalLaws.{takes_ask}
use Rattle.cc_laws.specs.Clusters.{Member}
use Rattle.cc_laws.specs.Regular.{released_events, IsWriteAsk, HasAtLeast, RoundOf, phase_in, HasAsked, IsRoundFor}
use Rattle.cc_laws.specs.Rounds.{awaits_views, awaits_acks, counts, ends_round, with_peer, peers_along, peers_of}
use Rattle.cc_laws.proofs.Lists.{all_changed, all_at}
use Rattle.cc_laws.proofs.Lines.{made_in}
use Rattle.cc_laws.proofs.Members.{IsSound, lawful_front}
use Rattle.cc_laws.proofs.Places.{at_same, at_before, at_behind, split_order, front_low, place_in, Place}
use Rattle.cc_laws.proofs.Says.{stored_of, Told, TellsOf, ReplySays, each_says, OutputSays, outputs_say}
use Rattle.cc_laws.proofs.PendingRounds.{HasAck, HasReply, Raised, ReadBefore, IsQueryOf, Pends, core_push, pends}
use Rattle.cc_laws.proofs.CountedAnswers.{IsAckFrom, IsReplyFrom, counted_ack, counted_reply, with_all}
use Rattle.cc_laws.proofs.Knowledge.{me_of, either_front, came_before, came_last}
use Rattle.cc_laws.proofs.WritingAsks.{asked_both, fresh_line, fresh_number}

-- ---- the requests of a session

pub request_new : (c : Core) (s r : ℕ) (k : Command) → decides c (event.Ask s r k) ≡ None → last_request c.sessions s < r
request_new c s r k taken =
    let t = takes_ask c s r k taken in
    let parts = or_parts _ _ t.new in
    let low : last_request c.sessions s ≤ r = ltb-false r (last_request c.sessions s) parts.0 in
    below (table.get c.sessions s) low (eqb-false r 0 parts.1) t.repeat
  where
    below : (o : Option ℕ) → unwrap_or o 0 ≤ r → (r ≡ 0 → ⊥) → (is_some o && (r == unwrap_or o 0)) ≡ false → unwrap_or o 0 < r
    below None low some apart = omega (arith, some)
    below (Some last) low some apart = omega (arith, low, eqb-false r last apart)

last_inserted : (ss : Requests) (x r s : ℕ) → (x ≡ s → last_request ss s < r) → last_request ss s ≤ last_request (table.insert ss x r) s
last_inserted ss x r s up =
    let is : table.get (table.insert ss x r) s ≡ cond (nat_eq s x) (Some r) (table.get ss s) = get-insert_key ss x r s in
    elim (eqb_tells s x) as (λ _. last_request ss s ≤ last_request (table.insert ss x r) s) [
      | inl e ↦
          let now : last_request (table.insert ss x r) s ≡ r = ap (λ o. unwrap_or o 0) (is ∙ ap (λ b. cond b (Some r) (table.get ss s)) e.0) in
          omega (arith, now, up (sym e.1))
      | inr e ↦
          let now : last_request (table.insert ss x r) s ≡ last_request ss s = ap (λ o. unwrap_or o 0) (is ∙ ap (λ b. cond b (Some r) (table.get ss s)) e.0) in
          omega (arith, now)
    ]

pub last_next : (c : Core) (e : Event) (s : ℕ) → decides c e ≡ None → last_request c.sessions s ≤ last_request (next c e).sessions s
unfolding next
last_next c (event.Ask x r k) s d = last_inserted c.sessions x r s (λ is. subst (λ (y : ℕ). last_request c.sessions y < r) is (request_new c x r k d))
last_next c _ s d = omega arith

pub last_after : (s : ℕ) (n : Node) (es : List Event) → IsLawful n es → last_request n.core.sessions s ≤ last_request (after n es).core.sessions s
unfolding step
last_after s n [] d = omega arith
last_after s n (e ∷ es) d = omega (arith, last_next n.core e s d.0, last_after s (step n e) es d.1)

-- ---- the event that made an answer

pub record Ended (m : Member) (s r : ℕ) (a : Answer) : Type 0 where
  pub place : Place (released_events m)
  pub open place use *
  pub ends : ends_round (after (fresh m.opening) before).core here ≡ true
  pub tells : TellsOf (after (fresh m.opening) before).core.ops (record { session = s; request = r; answer = a })

pub ended : (m : Member) (s r : ℕ) (a : Answer) → Contains (line (fresh m.opening) (released_events m)) (output.Reply s r a) → Ended m s r a
ended m s r a has =
    let made = made_in (fresh m.opening) (released_events m) (output.Reply s r a) has in
    let c = (after (fresh m.opening) made.before).core in
    let t : Reply = record { session = s; request = r; answer = a } in
    let is : Contains (replies c made.event) t =
    all_at (OutputSays c made.event) (outputs c made.event) (output.Reply s r a) (outputs_say c made.event) made.makes in
    let says = all_at (ReplySays c made.event) (replies c made.event) t (each_says c made.event) is in
    record {
      place = record { before = made.before; here = made.event; later = made.later; parts = made.parts };
      ends = says.0;
      tells = says.1;
    }

abbrev pub IsWriteOp : Core → ℕ → ℕ → Answer → Type 0
IsWriteOp c s r a =
    (p : Pending) × (x : Asked) × (c.ops.phase ≡ Storing p) × Contains (p.asked ∷ c.ops.others) x × (x.session ≡ s) × (x.request ≡ r)
    × (a ≡ answer_of x.command c.ops.view)

abbrev pub IsReadOp : Core → ℕ → ℕ → Answer → Type 0
IsReadOp c s r a =
    (p : Pending) × (x : Asked) × (seen : ViewMap) × (c.ops.phase ≡ StoringBack p seen)
    × Contains (p.asked ∷ c.ops.others) x × (x.session ≡ s) × (x.request ≡ r) × (a ≡ answer_of x.command seen)

pub either_op : (c : Core) (s r : ℕ) (a : Answer) (phase : Phase) → c.ops.phase ≡ phase
    → Told c.ops.view c.ops.others phase (record { session = s; request = r; answer = a })
    → IsWriteOp c s r a ⊎ IsReadOp c s r a
either_op c s r a (Storing p) is t =
    inl (p, t.0, is, t.1, ap (λ (k : Reply). k.session) (sym t.2), ap (λ (k : Reply). k.request) (sym t.2), ap (λ (k : Reply). k.answer) t.2)
either_op c s r a (StoringBack p seen) is t =
    inr (p, t.0, seen, is, t.1, ap (λ (k : Reply). k.session) (sym t.2), ap (λ (k : Reply). k.request) (sym t.2), ap (λ (k : Reply). k.answer) t.2)
either_op c s r a _ is t = absurd t

-- what pends where the phase is known
pub pending_as : (c : Core) (p : Pending) (phase : Phase) → c.ops.phase ≡ phase → asked_in phase ≡ p.asked ∷ [] → pending c.ops ≡ p.asked ∷ c.ops.others
pending_as c p phase is first = ap (λ (f : Phase). asked_in f ++ c.ops.others) is ∙ ap (λ (l : List Asked). l ++ c.ops.others) first

pub op_pends : (c : Core) (p : Pending) (phase : Phase) (x : Asked) → c.ops.phase ≡ phase → asked_in phase ≡ p.asked ∷ []
    → Contains (p.asked ∷ c.ops.others) x → Contains (pending c.ops) x
op_pends c p phase x is first has = subst (λ (l : List Asked). Contains l x) (sym (pending_as c p phase is first)) has

-- the asks of a round are of one kind
each_alike : (k : Bool) (first x : Asked) (others : List Asked) → is_writing first.command ≡ k → AllByRecursion (λ a. is_writing a.command ≡ k) others
    → Contains (first ∷ others) x → is_writing x.command ≡ k
each_alike k first x others is all has =
    all_at (λ (a : Asked). is_writing a.command ≡ k) (first ∷ others) x (is, all) has

pub op_writes : (c : Core) → IsLawfulCore c → (p : Pending) (x : Asked) → c.ops.phase ≡ Storing p → Contains (p.asked ∷ c.ops.others) x
    → is_writing x.command ≡ true
op_writes c lawful p x is has =
    each_alike true p.asked x c.ops.others (subst (IsPhaseOf c.links c.sessions) is lawful.phase).1
    (subst (λ (f : Phase). IsBeside f c.ops.others) is lawful.line.round.alike) has

pub op_reads : (c : Core) → IsLawfulCore c → (p : Pending) (seen : ViewMap) (x : Asked) → c.ops.phase ≡ StoringBack p seen → Contains (p.asked ∷ c.ops.others) x
    → is_writing x.command ≡ false
op_reads c lawful p seen x is has =
    each_alike false p.asked x c.ops.others (subst (IsPhaseOf c.links c.sessions) is lawful.phase).1
    (subst (λ (f : Phase). IsBeside f c.ops.others) is lawful.line.round.alike) has

-- each ask that pends is its session's last request
pub asked_last : (c : Core) → IsLawfulCore c → (s r : ℕ) → HasAsked (pending c.ops) s r → last_request c.sessions s ≡ r
asked_last c lawful s r has =
    let x = has.0 in
    let each = all_last c.links c.sessions c.ops lawful.phase lawful.line in
    let last : table.get c.sessions x.session ≡ Some x.request =
    all_at (IsLastOf c.sessions) (unanswered c.ops) x each (Contains-append_left (pending c.ops) c.ops.line x has.1) in
    ap (λ (y : ℕ). last_request c.sessions y) (sym has.2) ∙ ap (λ o. unwrap_or o 0) last ∙ has.3

-- who has an ask in front has none behind
none_behind : (xs ys : List Asked) → AreApart (xs ++ ys) → AllByRecursion (λ x. has_session x.session ys ≡ false) xs
none_behind [] ys apart = tt
none_behind (x ∷ xs) ys apart = ((or_parts _ _ (sym (has_both x.session xs ys) ∙ apart.0)).1, none_behind xs ys apart.1)

pub asked_none : (s r : ℕ) (xs ys : List Asked) → AreApart (xs ++ ys) → HasAsked xs s r → has_session s ys ≡ false
asked_none s r xs ys apart has =
    subst (λ (y : ℕ). has_session y ys ≡ false) has.2
    (all_at (λ (x : Asked). has_session x.session ys ≡ false) xs has.0 (none_behind xs ys apart) has.1)

-- which answers a reading command has, and a writing one
pub reads_view : (k : Command) (v : ViewMap) → is_writing k ≡ false → answer.Stored ≡ answer_of k v → ⊥
reads_view (command.Store text) v reads is = cc
reads_view _ v reads is = cc

pub writes_stored : (k : Command) (v : ViewMap) → is_writing k ≡ true → answer_of k v ≡ answer.Stored
writes_stored (command.Store text) v writes = cc
writes_stored _ v writes = cc

-- ---- rounds of one member

pub record StoredRound (q : ℕ) (m : Member) (s r : ℕ) (Q : Core → Type 0) : Type 0 where
  pub round : RoundOf m
  pub storing : awaits_acks (phase_in m round) ≡ true
  pub asked : IsRoundFor m round s r
  pub tag : ℕ
  pub raised : Raised (fresh m.opening) (released_events m) tag Q
  pub acks : AllByRecursion (HasAck m.events q tag) (peers_of (fresh m.opening) (released_events m) round)

-- a query of this request
abbrev pub IsQueryFor : ℕ → ℕ → Core → Type 0
IsQueryFor s r c = (p : Pending) × (c.ops.phase ≡ Querying p) × HasAsked (pending c.ops) s r

pub record ReadRound (p : ℕ) (n : Member) (s r : ℕ) (seen : ViewMap) : Type 0 where
  pub round : RoundOf n
  pub querying : awaits_views (phase_in n round) ≡ true
  pub asked : IsRoundFor n round s r
  pub tag : ℕ
  pub raised : Raised (fresh n.opening) (released_events n) tag (IsQueryFor s r)
  pub replies : AllByRecursion (HasReply n.events p tag seen) (peers_of (fresh n.opening) (released_events n) round)

module _ (q : ℕ) (m : Member) (sound : IsSound q m) where
  abbrev start : Node
  start = fresh m.opening

  lawful : IsLawful start (released_events m)
  lawful = lawful_front start m.events m.released sound.lawful

  lawful_before : (p : Place (released_events m)) → IsLawful start p.before
  lawful_before p = (lawful_parts start p.before (p.here ∷ p.later) (subst (IsLawful start) p.parts lawful)).0

  pub node_lawful : (p : Place (released_events m)) → IsLawfulNode (after start p.before)
  node_lawful p = after_lawful start p.before (lawful_before p) (fresh_lawful m.opening sound.opening)

  module _ (place : Place (released_events m)) where
    open place use {before as front, here as last, later, parts}

    abbrev c : Core
    c = (after start front).core

    raised_all : (tag : ℕ) (Q R : Core → Type 0) → ((d : Core) → Q d → R d) → Raised start front tag Q → Raised start (released_events m) tag R
    raised_all tag Q R f r = record {
      place = place_in (released_events m) front (last ∷ later) parts r.place;
      under = r.under;
      raised = r.raised;
      holds = f _ r.holds;
    }

    abbrev peers : List ℕ
    peers = peers_along start [] front

    is_me : c.me ≡ q
    is_me = me_of q m sound front

    abbrev round : ends_round c last ≡ true → RoundOf m
    round is_end = record { before = front; last = last; later = later; parts = parts; ends = is_end }

    -- what pends, where the phase is known
    pends_as : (phase : Phase) → c.ops.phase ≡ phase → Pends start front peers c.me c.ops.number c.ops.view c.ops.tag c.ops.others phase
    pends_as phase is = subst (Pends start front peers c.me c.ops.number c.ops.view c.ops.tag c.ops.others) is (pends m.opening front)

    stored_round : (s r : ℕ) (Q : Core → Type 0) → awaits_acks c.ops.phase ≡ true → (is_end : ends_round c last ≡ true) → IsRoundFor m (round is_end) s r
        → Raised start front c.ops.tag Q → AllByRecursion (HasAck front c.me c.ops.tag) peers → StoredRound q m s r Q
    stored_round s r Q is is_end asked raised acks = record {
      round = round is_end;
      storing = is;
      asked = asked;
      tag = c.ops.tag;
      raised = raised_all c.ops.tag Q Q (λ d k. k) raised;
      acks = subst (λ (me : ℕ). AllByRecursion (HasAck m.events me c.ops.tag) (with_peer (counts c last) peers)) is_me
          (with_all (HasAck m.events c.me c.ops.tag) (counts c last) peers
          (IfSome_then (counts c last) {P = IsAckFrom c last} {Q = HasAck m.events c.me c.ops.tag} (counted_ack c last is)
          (λ r k. (k.0, came_last m place _ k.1)))
          (all_changed (HasAck front c.me c.ops.tag) (HasAck m.events c.me c.ops.tag)
          (λ r k. (k.0, came_before m place _ k.1)) peers acks));
    }

    pub write_round : (s r : ℕ) (p : Pending) → HasAsked (pending c.ops) s r → c.ops.phase ≡ Storing p → ends_round c last ≡ true
        → StoredRound q m s r (λ d. HasAtLeast (stored_of d.ops) q c.ops.number)
    write_round s r p asked is is_end =
        let h = pends_as (Storing p) is in
        subst (λ (me : ℕ). StoredRound q m s r (λ d. HasAtLeast (stored_of d.ops) me c.ops.number)) is_me
        (stored_round s r (λ d. HasAtLeast (stored_of d.ops) c.me c.ops.number) (ap awaits_acks is) is_end asked h.0 h.1)

    pub back_round : (s r : ℕ) (p : Pending) (seen : ViewMap) → HasAsked (pending c.ops) s r → c.ops.phase ≡ StoringBack p seen → ends_round c last ≡ true
        → StoredRound q m s r (λ d. stored_of d.ops ≡ seen)
    back_round s r p seen asked is is_end =
        let h = pends_as (StoringBack p seen) is in
        stored_round s r (λ d. stored_of d.ops ≡ seen) (ap awaits_acks is) is_end asked h.0 h.1

    pub query_round : (s r : ℕ) (seen : ViewMap) (p : Pending) → HasAsked (pending c.ops) s r → c.ops.phase ≡ Querying p → ends_round c last ≡ true
        → (next c last).ops.view ≡ seen → ReadRound q m s r seen
    query_round s r seen p asked phase is_end saw =
        let h = pends_as (Querying p) phase in
        let is : awaits_views c.ops.phase ≡ true = ap awaits_views phase in
        let as_pending : pending c.ops ≡ p.asked ∷ c.ops.others = pending_as c p (Querying p) phase refl in
        let widest : IsAtMost c.ops.view seen = subst (IsAtMost c.ops.view) saw (view_grows c last) in
        record {
          round = round is_end;
          querying = is;
          asked = asked;
          tag = c.ops.tag;
          raised = raised_all c.ops.tag (IsQueryOf (p.asked ∷ c.ops.others)) (IsQueryFor s r)
              (λ d k. (k.0, k.1, subst (λ (l : List Asked). HasAsked l s r) (as_pending ∙ sym k.2) asked)) h.0;
          replies = subst (λ (me : ℕ). AllByRecursion (HasReply m.events me c.ops.tag seen) (with_peer (counts c last) peers)) is_me
              (with_all (HasReply m.events c.me c.ops.tag seen) (counts c last) peers
              (IfSome_then (counts c last) {P = IsReplyFrom c last} {Q = HasReply m.events c.me c.ops.tag seen} (counted_reply c last is)
              (λ x k. (k.0, k.1, came_last m place _ k.2, subst (IsAtMost k.1) saw k.3)))
              (all_changed (HasReply front c.me c.ops.tag c.ops.view) (HasReply m.events c.me c.ops.tag seen)
              (λ x k. (k.0, k.1, came_before m place _ k.2, at_most_trans k.1 c.ops.view seen k.3 widest)) peers h.1));
        }

    read_before : (p : Pending) (seen : ViewMap) → c.ops.phase ≡ StoringBack p seen → ReadBefore start front (p.asked ∷ c.ops.others) seen
    read_before p seen is = (pends_as (StoringBack p seen) is).2

  -- what was answered was read in a round before
  pub answered_read : (s r : ℕ) (a : Answer) (op : Ended m s r a) (p : Pending) (seen : ViewMap) → (after start op.before).core.ops.phase ≡ StoringBack p seen
      → HasAsked (pending (after start op.before).core.ops) s r → ReadRound q m s r seen
  answered_read s r a op p seen is asked =
      let d = (after start op.before).core in
      let b = read_before op.place p seen is in
      let place = place_in (released_events m) op.before (op.here ∷ op.later) op.parts b.place in
      let same : pending d.ops ≡ pending (after start b.before).core.ops = pending_as d p (StoringBack p seen) is refl ∙ sym b.same in
      query_round place s r seen b.query
      (subst (λ (l : List Asked). HasAsked l s r) same asked) b.querying b.ends
      (ap (λ (e : Core). e.ops.view) (sym (core_push start b.before b.here)) ∙ b.saw)

  -- ---- the number of a write

  has_there : (s : ℕ) (rest more : List Asked) (a : Asked) → nat_eq s a.session ≡ true → has_session s (rest ++ a ∷ more) ≡ true
  has_there s [] more a is = or_left _ _ is
  has_there s (x ∷ rest) more a is = or_right _ _ (has_there s rest more a is)

  -- who has an ask of a kind has one
  has_of : (k : Bool) (s : ℕ) (asks : List Asked) → has_session s (of_kind k asks) ≡ true → has_session s asks ≡ true
  has_of k s [] is = is
  has_of k s (x ∷ asks) is =
      elim (is_of k x) as (λ b. has_session s (if b then x ∷ of_kind k asks else of_kind k asks) ≡ true → has_session s (x ∷ asks) ≡ true) [
        | true ↦ λ here.
            elim (or_cases (nat_eq s x.session) (has_session s (of_kind k asks)) here) as (λ _. has_session s (x ∷ asks) ≡ true) [
              | inl e ↦ or_left _ _ e
              | inr e ↦ or_right _ _ (has_of k s asks e)
            ]
        | false ↦ λ here. or_right _ _ (has_of k s asks here)
      ] is

  pub number_reached : (s r k : ℕ) (a : Answer) (op : Ended m s r a) → HasAsked (pending (after start op.before).core.ops) s r
      → IsWriteAsk (released_events m) k s r → k ≤ (after start op.before).core.ops.number
  number_reached s r k a op asked w =
      let es = released_events m in
      let d = (after start op.before).core in
      let e = event.Ask s r w.command in
      let node = node_lawful op.place in
      let last_is : last_request d.sessions s ≡ r = asked_last d node.core s r asked in
      elim (split_order w.before w.later op.before op.later e op.here (sym w.parts ∙ op.parts)) as (λ _. k ≤ d.ops.number) [
        | at_same at it ↦ let never : false ≡ true = ap (ends_round d) it ∙ op.ends in absurd cc
        | at_before more inside ↦ reached more inside node
        | at_behind more outside ↦
            let lawful_w = (lawful_parts start w.before (e ∷ w.later) (subst (IsLawful start) w.parts lawful)) in
            let new : last_request (after start w.before).core.sessions s < r = request_new (after start w.before).core s r w.command lawful_w.1.0 in
            let old = front_low (λ n. last_request n.core.sessions s) (last_after s) start w.before op.before (op.here ∷ more) lawful_w.0 outside in
            absurd (omega (arith, new, old, last_is))
      ]
    where
      reached : (more : List Event) → op.before ≡ w.before ++ event.Ask s r w.command ∷ more → IsLawfulNode (after start op.before)
          → k ≤ (after start op.before).core.ops.number
      reached more inside node =
          let front = op.before in
          let ops = (after start front).core.ops in
          let x = asked_of s r w.command in
          let begun = begun_along start front in
          let first = asked_along w.before in
          let writers = of_kind true begun in
          let waiting = of_kind true ops.line in
          let later = of_kind true (asked_along more) in
          let begins : of_kind true (asked_along front) ≡ writers ++ waiting =
          ap (λ (l : List Asked). of_kind true (l ++ asked_along front)) (sym (fresh_line m.opening))
          ∙ begin_in_order true start front (fresh_lawful m.opening sound.opening) (lawful_before op.place)
          ∙ kind_both true begun ops.line in
          let asks : of_kind true (asked_along front) ≡ of_kind true first ++ x ∷ later =
          ap (of_kind true) (ap asked_along inside ∙ asked_both w.before (event.Ask s r w.command ∷ more)) ∙ kind_both true first (x ∷ asked_along more)
          ∙ ap (λ (b : Bool). of_kind true first ++ (if b then x ∷ later else later)) w.writes in
          let order : writers ++ waiting ≡ of_kind true first ++ x ∷ later = sym begins ∙ asks in
          let count : ops.number ≡ writes_by begun = omega (arith, own_number_along start front, fresh_number m.opening) in
          elim (either_front writers waiting (of_kind true first) later x order) as (λ _. k ≤ ops.number) [
            | inl h ↦
                let waits : waiting ≡ h.0 ++ x ∷ later =
                append_cancel_left writers waiting (h.0 ++ x ∷ later)
                (order ∙ ap (λ (l : List Asked). l ++ x ∷ later) h.1 ∙ append_assoc writers h.0 (x ∷ later)) in
                let there : has_session s waiting ≡ true = ap (has_session s) waits ∙ has_there s h.0 later x (eq-eqb s s refl) in
                let none : has_session s ops.line ≡ false = asked_none s r (pending ops) ops.line node.core.line.apart asked in
                absurd (both_ways (has_session s ops.line) none (has_of true s ops.line there))
            | inr h ↦
                let one : writes_by (x ∷ h.0) ≡ 1 + writes_by h.0 = ap (λ b. (if b then 1 else 0) + writes_by h.0) w.writes in
                omega (arith, count, writers_count begun, writers_count first, ap writes_by h.1, writes_both (of_kind true first) (x ∷ h.0), one, w.number)
          ]
