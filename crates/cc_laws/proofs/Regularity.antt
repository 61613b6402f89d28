-- Each collect sees the stores that ended before it began, and none goes back.
--     Course                  what goes on from fresh nodes up to a middle, and from there to an end
--     RoundsShare, one_shares, each_shares     each two rounds of two requests counted one node: where one of each did, where all meet
--     collects_share, store_shares    two rounds that did, of two collects and of a store and a collect, where all meet
--     seen_later              what a round stored that ended by then, a read that began later has seen
--     stores_seen, reads_in_turn    so of stores, and of two collects
use Rattle.std.proofs.Common.{◌≡◌, ◌⊎◌, ℕ, ◌<◌, ◌≤◌, true, false, List, [], ◌∷◌, ◌++◌, refl, sym, ap, subst, ◌∙◌, inl, inr, arith}
use Rattle.std.specs.Prelude.{Option, Some, None, IsSomeAnd, ⊤}
use Rattle.std.specs.List.{Contains, AllByRecursion}
use Rattle.std.specs.FinMap as table
use Rattle.std.proofs.lemmas.Bool.{cases_lt}
use Rattle.cc_views.specs.Rows.{Pair, ViewMap}
use Rattle.cc_views.specs.Merge.{IsKept, IsAtMost}
use Rattle.cc_messages.specs.declared.answer.Answer.{Answer}
use Rattle.cc_messages.specs.declared.answer.Answer.TheVariants as answer
use Rattle.cc_messages.specs.declared.output.Output.TheVariants as output
use Rattle.cc_views.specs.declared.value.Value.{Value}
use Rattle.cc_messages.specs.declared.command.Command.{Command}
use Rattle.cc_messages.specs.declared.command.Command.TheVariants as command
use Rattle.cc_ops.specs.declared.pending_operation.Pending.{Pending}
use Rattle.cc_ops.specs.Commands.{answer_of}
use Rattle.cc_ops.specs.Ops.{Storing, StoringBack, pending as pending_asks}
use Rattle.cc_sessions.specs.Sessions.{last_request}
use Rattle.cc_node.specs.Core.{Core}
use Rattle.cc_node.specs.Node.{Node, after, IsLawful}
use Rattle.cc_node.specs.Openings.{Opening, fresh}
use Rattle.cc_node.specs.Histories.{lawful_parts}
use Rattle.cc_node.proofs.FreshLaws.{fresh_lawful, after_lawful}
use Rattle.cc_laws.specs.Clusters.{Member, Cluster, node_at, Move}
use Rattle.cc_laws.specs.Runs.{Run, IsFreshCluster, Occurs, among_sent}
use Rattle.cc_laws.specs.Orders.{GoesOn, IsFollowedBy}
use Rattle.cc_laws.specs.Rounds.{awaits_acks, awaits_views, Round, peers_of}
use Rattle.cc_laws.specs.Regular.{released_events, IsAnswered, IsWriteAsk, IsStored, IsAhead, HasAtLeast, SeesWrite, RoundOf, Counted, phase_in}
use Rattle.cc_laws.specs.Regular.{HasAsked, IsRoundFor, RoundsMeet, SharedRounds, ShareNode}
use Rattle.cc_laws.specs.Fixed.{IsFixedCluster, Stays}
use Rattle.cc_laws.proofs.Agreement.{all_written, one_value}
use Rattle.cc_laws.proofs.Lists.{all_both, all_at}
use Rattle.cc_laws.proofs.Quorums.{rounds_meet}
use Rattle.cc_laws.proofs.CountedAnswers.{no_views}
use Rattle.cc_laws.proofs.OneRound.{same_counted}
use Rattle.cc_laws.proofs.Members.{IsSound, lawful_front}
use Rattle.cc_laws.proofs.ClusterSteps.{Holds, IsAt, one_at, Grows, GrownAt}
use Rattle.cc_laws.proofs.ClusterMoves.{run_holds, fresh_holds}
use Rattle.cc_laws.proofs.Traces.{MadeBy, WasMade, Traces, run_traces, fresh_traces, run_grows, run_sent, place_later}
use Rattle.cc_laws.proofs.Places.{parts_more, front_low}
use Rattle.cc_laws.proofs.Says.{tag_after, stored_of}
use Rattle.cc_laws.proofs.PendingRounds.{HasAck, HasReply, Raised, least_more}
use Rattle.cc_laws.proofs.Knowledge.{either_front, Knows, store_known, reply_known}
use Rattle.cc_laws.proofs.AnswerRounds.{last_after, Ended, ended, either_op, op_pends, op_writes, op_reads, asked_last, reads_view, writes_stored, StoredRound}
use Rattle.cc_laws.proofs.AnswerRounds.{IsQueryFor, ReadRound, node_lawful, write_round, back_round, answered_read, number_reached}
use Rattle.cc_objects.specs.Objects.{max_of, flag_of, set_of}

-- a query of a request began where the node had released none such
asked_later : (p : ℕ) (m n : Member) → IsSound p n → Grows m n → (s r tag : ℕ) → last_request (node_at m m.released).core.sessions s < r
    → Raised (fresh n.opening) (released_events n) tag (IsQueryFor s r) → (node_at m m.released).core.ops.tag < tag
asked_later p m n sound grows s r tag ahead raised =
    let start = fresh n.opening in
    let lawful = lawful_front start n.events n.released sound.lawful in
    let at_m : after start (released_events m) ≡ node_at m m.released = ap (λ (o : Opening). after (fresh o) (released_events m)) grows.opening in
    let front = raised.before ++ raised.here ∷ [] in
    let order = either_front (released_events m) grows.longer.0 raised.before raised.later raised.here (sym grows.longer.1 ∙ raised.parts) in
    elim order as (λ _. (node_at m m.released).core.ops.tag < tag) [
      | inl e ↦
          let to_raiser = (lawful_parts start raised.before (raised.here ∷ raised.later) (subst (IsLawful start) raised.parts lawful)).0 in
          let up = front_low (λ x. x.core.ops.tag) tag_after start raised.before (released_events m) e.0 to_raiser e.1 in
          omega (arith, up, ap (λ (x : Node). x.core.ops.tag) at_m, raised.under)
      | inr e ↦
          let parts : released_events m ≡ front ++ e.0 = parts_more (released_events m) raised.before e.0 raised.here e.1 in
          let to_m = (lawful_parts start (released_events m) grows.longer.0 (subst (IsLawful start) grows.longer.1 lawful)).0 in
          let to_front = (lawful_parts start front e.0 (subst (IsLawful start) parts to_m)).0 in
          let c = (after start front).core in
          let asked : last_request c.sessions s ≡ r =
          asked_last c (after_lawful start front to_front (fresh_lawful n.opening sound.opening)).core s r raised.holds.2 in
          let up = front_low (λ x. last_request x.core.sessions s) (last_after s) start (released_events m) front e.0 to_m parts in
          absurd (omega (arith, asked, up, ap (λ (x : Node). last_request x.core.sessions s) at_m, ahead))
    ]

-- what a reading is answered, of what it saw
abbrev pub ReadsAs : ViewMap → Answer → Type 0
ReadsAs seen answer.Stored = ⊤
ReadsAs seen (answer.Seen v) = seen ≡ v
ReadsAs seen (answer.Max n) = n ≡ max_of seen
ReadsAs seen (answer.Flag b) = b ≡ flag_of seen
ReadsAs seen (answer.Set s) = s ≡ set_of seen

reads_as : (k : Command) (seen : ViewMap) → ReadsAs seen (answer_of k seen)
reads_as command.Collect seen = refl
reads_as command.ReadMax seen = refl
reads_as command.ReadFlag seen = refl
reads_as command.ReadSet seen = refl
reads_as _ seen = tt

-- an answer that isn't Stored was read
pub record Reading (c : Cluster) (p s r : ℕ) (a : Answer) : Type 0 where
  pub member : Member
  pub there : IsAt c p member
  pub op : Ended member s r a
  pub pending : Pending
  pub seen : ViewMap
  pub phase : (after (fresh member.opening) op.before).core.ops.phase ≡ StoringBack pending seen
  pub asked : HasAsked (pending_asks (after (fresh member.opening) op.before).core.ops) s r
  pub tells : ReadsAs seen a

pub reading : (c : Cluster) → Holds c → Traces c → (p s r : ℕ) (a : Answer) → IsAnswered c p s r a → (a ≡ answer.Stored → ⊥) → Reading c p s r a
reading c h t p s r a has read =
    let made : MadeBy c p (output.Reply s r a) = all_at (WasMade c) c.sent _ t.sent has in
    let m = made.0 in
    let op = ended m s r a made.2 in
    let b = (after (fresh m.opening) op.before).core in
    let lawful = (node_lawful p m (h.sound p m made.1) op.place).core in
    elim (either_op b s r a b.ops.phase refl op.tells) as (λ _. Reading c p s r a) [
      | inl w ↦ absurd (read (w.6 ∙ writes_stored w.1.command b.ops.view (op_writes b lawful w.0 w.1 w.2 w.3)))
      | inr o ↦ record {
        member = m;
        there = made.1;
        op = op;
        pending = o.0;
        seen = o.2;
        phase = o.3;
        asked = (o.1, op_pends b o.0 (StoringBack o.0 o.2) o.1 o.3 refl o.4, o.5, o.6);
        tells = subst (ReadsAs o.2) (sym o.7) (reads_as o.1.command o.2);
      }
    ]

pub run_both : (a : Cluster) (xs : List (ℕ × Move)) (b : Cluster) (ys : List (ℕ × Move)) (e : Cluster) → Run a xs b → Run b ys e → Run a (xs ++ ys) e
run_both a [] b ys e h k = subst (λ (z : Cluster). Run z ys e) h k
run_both a (move ∷ xs) b ys e h k = (h.0, h.1, run_both h.0 xs b ys e h.2 k)

pub some_and : (o : Option Pair) (Q : Pair → Type 0) → IsSomeAnd o Q → (e : Pair) × (o ≡ Some e) × Q e
some_and None Q h = absurd h
some_and (Some e) Q h = (e, refl, h)

goes_on : (u w : Option Pair) → IsKept u w → ((k : ℕ) (x y : Value) → u ≡ Some (k, x) → w ≡ Some (k, y) → x ≡ y) → GoesOn u w
goes_on None w h same = tt
goes_on (Some e) None h same = absurd h
goes_on (Some e) (Some f) h same =
    elim (cases_lt e.0 f.0) as (λ _. (e.0 < f.0) ⊎ (e ≡ f)) [
      | inl less ↦ inl less
      | inr no_less ↦
          let number : e.0 ≡ f.0 = omega (arith, h, no_less) in
          let value : e.1 ≡ f.1 = same e.0 e.1 f.1 refl (λ i. Some (sym number i, f.1)) in
          inr (λ i. (number i, value i))
    ]

at_least : (o : Option Pair) (low high : ℕ) → low ≤ high → IsSomeAnd o (λ e. high ≤ e.0) → IsSomeAnd o (λ e. low ≤ e.0)
at_least None low high le has = has
at_least (Some e) low high le has = omega (arith, le, has)

kept_if : (u w : Option Pair) → ((k : ℕ) → IsSomeAnd u (λ e. k ≤ e.0) → IsSomeAnd w (λ e. k ≤ e.0)) → IsKept u w
kept_if None w f = tt
kept_if (Some e) w f = f e.0 (omega arith)

-- what goes on in a cluster from fresh nodes on: up to the middle, and from there to the end
pub record Course : Type 0 where
  pub c : Cluster
  pub mid : Cluster
  pub d : Cluster
  pub first : List (ℕ × Move)
  pub second : List (ℕ × Move)
  pub begins : IsFreshCluster c
  pub to_mid : Run c first mid
  pub to_d : Run mid second d

abbrev pub course : (c mid d : Cluster) (first second : List (ℕ × Move)) → IsFreshCluster c → Run c first mid → Run mid second d → Course
course c mid d first second begins to_mid to_d =
    record { c = c; mid = mid; d = d; first = first; second = second; begins = begins; to_mid = to_mid; to_d = to_d }

module _ (run : Course) where
  open run use {c, mid, d, first, second, begins, to_mid, to_d}

  h_mid : Holds mid
  h_mid = run_holds c first mid (fresh_holds c begins) to_mid

  t_mid : Traces mid
  t_mid = run_traces c first mid (fresh_holds c begins) (fresh_traces c begins) to_mid

  pub h_end : Holds d
  h_end = run_holds mid second d h_mid to_d

  t_end : Traces d
  t_end = run_traces mid second d h_mid t_mid to_d

  pub grown : (p : ℕ) (o : Member) → IsAt mid p o → GrownAt d p o
  grown = run_grows mid second d h_mid to_d

  pub reading_mid : (p s r : ℕ) (a : Answer) → IsAnswered mid p s r a → (a ≡ answer.Stored → ⊥) → Reading mid p s r a
  reading_mid = reading mid h_mid t_mid

  pub reading_end : (p s r : ℕ) (a : Answer) → IsAnswered d p s r a → (a ≡ answer.Stored → ⊥) → Reading d p s r a
  reading_end = reading d h_end t_end

  read_round_of : (p x y : ℕ) (a : Answer) (read : Reading d p x y a) → ReadRound p read.member x y read.seen
  read_round_of p x y a read =
      answered_read p read.member (h_end.sound p read.member read.there) x y a read.op read.pending read.seen read.phase read.asked

  -- any round that stored for the one request, and any that queried for the other, counted one node
  abbrev pub RoundsShare : ℕ → ℕ → ℕ → ℕ → ℕ → ℕ → Type 0
  RoundsShare q s r p x y =
      (m n : Member) → IsAt mid q m → IsAt d p n
      → (first : RoundOf m) → awaits_acks (phase_in m first) ≡ true → IsRoundFor m first s r
      → (second : RoundOf n) → awaits_views (phase_in n second) ≡ true → IsRoundFor n second x y
      → (peer : ℕ) × Counted m first peer × Counted n second peer

  -- where one did of each, all do: there is no other
  pub one_shares : (q s r p x y : ℕ) → ShareNode mid d q s r p x y → RoundsShare q s r p x y
  one_shares q s r p x y share m n at at' first storing of_first second querying of_second =
      let shared : SharedRounds m n s r x y =
      subst (λ (k : Member). SharedRounds m k s r x y) (one_at d p p share.later n refl share.is_later at')
      (subst (λ (k : Member). SharedRounds k share.later s r x y) (one_at mid q q share.earlier m refl share.is_earlier at) share.rounds) in (
        shared.peer,
        same_counted false s r q m (h_mid.sound q m at) shared.first first
            (record { kind = no_views (phase_in m shared.first) shared.stored; asked = shared.of_first })
            (record { kind = no_views (phase_in m first) storing; asked = of_first }) shared.peer shared.in_first,
        same_counted true x y p n (h_end.sound p n at') shared.second second
            (record { kind = shared.queried; asked = shared.of_second }) (record { kind = querying; asked = of_second })
            shared.peer shared.in_second,
      )

  -- where all rounds meet, both counted one node
  pub each_shares : RoundsMeet d → (q s r p x y : ℕ) → RoundsShare q s r p x y
  each_shares meet q s r p x y m n at at' stored storing of_stored read querying of_read =
      let grew = grown q m at in
      let w = grew.0 in
      let grows = grew.2 in
      let later : Round (fresh m.opening) (released_events w) = record {
        before = stored.before;
        last = stored.last;
        later = stored.later ++ grows.longer.0;
        parts = place_later m w grows stored.before stored.later stored.last stored.parts;
        ends = stored.ends;
      } in
      subst (λ (o : Opening). (round : Round (fresh o) (released_events w))
      → (k : ℕ) × Contains (peers_of (fresh o) (released_events w) round) k × Counted n read k) grows.opening
      (λ round. meet q p w n grew.1 at' round read) later

  shared_by : RoundsMeet d → (q s r p x y : ℕ) (m : Member) → IsAt mid q m → (first : RoundOf m) → awaits_acks (phase_in m first) ≡ true
      → IsRoundFor m first s r → (b : Answer) → Reading d p x y b → ShareNode mid d q s r p x y
  shared_by meet q s r p x y m at first storing of_first b late =
      let read = read_round_of p x y b late in
      let both = each_shares meet q s r p x y m late.member at late.there first storing of_first read.round read.querying read.asked in
      record {
        earlier = m;
        later = late.member;
        is_earlier = at;
        is_later = late.there;
        rounds = record {
          first = first;
          stored = storing;
          of_first = of_first;
          second = read.round;
          queried = read.querying;
          of_second = read.asked;
          peer = both.0;
          in_first = both.1;
          in_second = both.2;
        };
      }

  -- so of what was answered by then, and of what was answered in the end
  reads_share : RoundsMeet d → (q s r : ℕ) (a : Answer) → Reading mid q s r a → (p x y : ℕ) (b : Answer) → Reading d p x y b → ShareNode mid d q s r p x y
  reads_share meet q s r a early p x y b late =
      let op = early.op in
      let back = back_round q early.member (h_mid.sound q early.member early.there) op.place s r early.pending early.seen early.asked early.phase op.ends in
      shared_by meet q s r p x y early.member early.there back.round back.storing back.asked b late

  pub collects_share : RoundsMeet d → (q s r : ℕ) (v : ViewMap) → IsAnswered mid q s r (answer.Seen v) → (p x y : ℕ) (w : ViewMap)
      → IsAnswered d p x y (answer.Seen w) → ShareNode mid d q s r p x y
  collects_share meet q s r v first_has p x y w second_has =
      reads_share meet q s r (answer.Seen v) (reading_mid q s r (answer.Seen v) first_has (λ is. cc)) p x y (answer.Seen w)
      (reading_end p x y (answer.Seen w) second_has (λ is. cc))

  pub store_shares : RoundsMeet d → (q s r k : ℕ) → IsStored mid q k s r → (p x y : ℕ) (w : ViewMap) → IsAnswered d p x y (answer.Seen w)
      → ShareNode mid d q s r p x y
  store_shares meet q s r k stored p x y w has =
      let made : MadeBy mid q (output.Reply s r answer.Stored) = all_at (WasMade mid) mid.sent _ t_mid.sent stored.3 in
      let m = made.0 in
      let sound = h_mid.sound q m made.1 in
      let op = ended m s r answer.Stored made.2 in
      let b = (after (fresh m.opening) op.before).core in
      let lawful = (node_lawful q m sound op.place).core in
      elim (either_op b s r answer.Stored b.ops.phase refl op.tells) as (λ _. ShareNode mid d q s r p x y) [
        | inl o ↦
            let asked : HasAsked (pending_asks b.ops) s r = (o.1, op_pends b o.0 (Storing o.0) o.1 o.2 refl o.3, o.4, o.5) in
            let stored_round = write_round q m sound op.place s r o.0 asked o.2 op.ends in
            shared_by meet q s r p x y m made.1 stored_round.round stored_round.storing stored_round.asked (answer.Seen w)
            (reading_end p x y (answer.Seen w) has (λ is. cc))
        | inr o ↦ absurd (reads_view o.1.command o.2 (op_reads b lawful o.0 o.2 o.1 o.3 o.4) o.7)
      ]

  -- where members stay the same, they meet
  to_end : Run c (first ++ second) d
  to_end = run_both c first mid second d to_mid to_d

  pub meets : (all : List ℕ) → IsFixedCluster all c → AllByRecursion (λ move. Stays move.1) first → AllByRecursion (λ move. Stays move.1) second
      → RoundsMeet d
  meets all fixed stays stays_on =
      rounds_meet all c d (first ++ second) begins fixed (all_both (λ (move : ℕ × Move). Stays move.1) first second stays stays_on) to_end

  seen_occurs : (p x y : ℕ) (v : ViewMap) → IsAnswered d p x y (answer.Seen v) → Occurs d v
  seen_occurs p x y v has = among_sent (record { from = p; output = output.Reply x y (answer.Seen v) }) has refl

  module _ (q s r p x y : ℕ) (ahead : IsAhead mid p x y) (share : RoundsShare q s r p x y) where
    -- what the one request had stored by then, the later one has seen
    seen_later : (m n : Member) → IsAt mid q m → IsAt d p n → (Q : Core → Type 0) (node k : ℕ) → ((e : Core) → Q e → HasAtLeast (stored_of e.ops) node k)
        → StoredRound q m s r Q → (seen : ViewMap) → ReadRound p n x y seen → HasAtLeast seen node k
    seen_later m n at at' Q node k has stored seen read =
        let both = share m n at at' stored.round stored.storing stored.asked read.round read.querying read.asked in
        let peer = both.0 in
        let ack = all_at (HasAck m.events q stored.tag) _ peer stored.acks both.1 in
        let reply = all_at (HasReply n.events p read.tag seen) _ peer read.replies both.2 in
        let known = store_known mid h_mid t_mid q m at stored.tag Q stored.raised peer ack.0 ack.1 in
        let knows : Knows mid peer node k = (known.0, known.1, least_more (stored_of known.2.ops) _ node k known.4 (has known.2 known.3)) in
        let grew = grown p ahead.0 ahead.1 in
        let is_n : grew.0 ≡ n = one_at d p p grew.0 n refl grew.1 at' in
        let under = asked_later p ahead.0 n (h_end.sound p n at') (subst (Grows ahead.0) is_n grew.2) x y read.tag ahead.2 read.raised in
        least_more reply.1 seen node k reply.3
        (reply_known mid d h_mid t_mid h_end t_end grown p ahead.0 n ahead.1 at' read.tag under peer reply.0 reply.1 reply.2 node k knows)

    -- a read that began after a store had ended
    pub stores_seen : (k : ℕ) → IsStored mid q k s r → (a : Answer) (read : Reading d p x y a) → HasAtLeast read.seen q k
    stores_seen k stored a read =
        let made : MadeBy mid q (output.Reply s r answer.Stored) = all_at (WasMade mid) mid.sent _ t_mid.sent stored.3 in
        let m = made.0 in
        let is_m : m ≡ stored.0 = one_at mid q q m stored.0 refl made.1 stored.1 in
        let ask : IsWriteAsk (released_events m) k s r = subst (λ (n : Member). IsWriteAsk (released_events n) k s r) (sym is_m) stored.2 in
        let sound = h_mid.sound q m made.1 in
        let op = ended m s r answer.Stored made.2 in
        let b = (after (fresh m.opening) op.before).core in
        let lawful = (node_lawful q m sound op.place).core in
        elim (either_op b s r answer.Stored b.ops.phase refl op.tells) as (λ _. HasAtLeast read.seen q k) [
          | inl w ↦
              let asked : HasAsked (pending_asks b.ops) s r = (w.1, op_pends b w.0 (Storing w.0) w.1 w.2 refl w.3, w.4, w.5) in
              let reached = number_reached q m sound s r k answer.Stored op asked ask in
              seen_later m read.member made.1 read.there (λ e. HasAtLeast (stored_of e.ops) q b.ops.number) q k
              (λ e has. at_least (table.get (stored_of e.ops) q) k b.ops.number reached has)
              (write_round q m sound op.place s r w.0 asked w.2 op.ends) read.seen (read_round_of p x y a read)
          | inr o ↦ absurd (reads_view o.1.command o.2 (op_reads b lawful o.0 o.2 o.1 o.3 o.4) o.7)
        ]

    -- a read that began after another had ended
    pub reads_in_turn : (a : Answer) (early : Reading mid q s r a) (b : Answer) (late : Reading d p x y b) → IsAtMost early.seen late.seen
    reads_in_turn a early b late =
        let m = early.member in
        let op = early.op in
        let back = back_round q m (h_mid.sound q m early.there) op.place
        s r early.pending early.seen early.asked early.phase op.ends in
        λ node. kept_if (table.get early.seen node) (table.get late.seen node) (λ k has.
        seen_later m late.member early.there late.there (λ e. stored_of e.ops ≡ early.seen) node k
        (λ e is. subst (λ (v : ViewMap). HasAtLeast v node k) (sym is) has) back late.seen (read_round_of p x y b late))

    -- ---- as clients see it

    pub collect_sees : (k : ℕ) → IsStored mid q k s r → (v : ViewMap) → IsAnswered d p x y (answer.Seen v) → SeesWrite d v q k
    collect_sees k stored v has =
        let read = reading_end p x y (answer.Seen v) has (λ is. cc) in
        let seen : HasAtLeast v q k =
        subst (λ (u : ViewMap). HasAtLeast u q k) read.tells (stores_seen k stored (answer.Seen v) read) in
        let row = some_and (table.get v q) (λ e. k ≤ e.0) seen in
        (row.0.0, row.0.1, row.2, row.1, all_written c d (first ++ second) begins to_end v (seen_occurs p x y v has) q row.0.0 row.0.1 row.1)

    pub collects_in_turn : (v : ViewMap) → IsAnswered mid q s r (answer.Seen v) → (w : ViewMap) → IsAnswered d p x y (answer.Seen w) → IsFollowedBy v w
    collects_in_turn v first_has w second_has =
        let early = reading_mid q s r (answer.Seen v) first_has (λ is. cc) in
        let late = reading_end p x y (answer.Seen w) second_has (λ is. cc) in
        let most : IsAtMost v w =
        subst (λ (u : ViewMap). IsAtMost u w) early.tells (subst (IsAtMost early.seen) late.tells (reads_in_turn (answer.Seen v) early (answer.Seen w) late)) in
        let occurs_v = seen_occurs q s r v (run_sent mid second d to_d _ first_has) in
        λ node. goes_on (table.get v node) (table.get w node) (most node)
        (λ k a b here there. one_value c d (first ++ second) begins to_end v w occurs_v (seen_occurs p x y w second_has) node k a b here there)
