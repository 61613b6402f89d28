-- Where nobody enters, leaves or is retired: every message is of a round or tells the same members, and every round needs as
-- many answers as the first.
--     member_knows              what a member knows of the others at its start
--     AreQuiet, run_steady      each event is so
--     Needs, round_size         a round that ended counted as many answers as the first one needs
use Rattle.std.proofs.Common.{◌≡◌, ℕ, ◌*◌, ◌<◌, Bool, true, false, List, [], ◌∷◌, ◌++◌, length, refl, sym, ap, subst, ◌∙◌}
use Rattle.std.specs.Prelude.{is_some, IsTrue, ⊤, ◌&&◌, not}
use Rattle.std.specs.List.{AllByRecursion}
use Rattle.cc_views.specs.NatSets as set
use Rattle.cc_views.specs.NatSets.{same_ids, contains-difference, contains-empty}
use Rattle.cc_views.specs.Rows.{ViewMap}
use Rattle.cc_changes.specs.Need.{needed}
use Rattle.cc_messages.specs.declared.event.Event.{Event}
use Rattle.cc_messages.specs.declared.event.Event.TheVariants as event
use Rattle.cc_messages.specs.declared.message.Message.{Message}
use Rattle.cc_messages.specs.declared.message.Message.TheVariants as message
use Rattle.cc_messages.specs.declared.output.Output.TheVariants as output
use Rattle.cc_ops.specs.declared.pending_operation.Asked.{Asked}
use Rattle.cc_churn.specs.Churn as churn
use Rattle.cc_ops.specs.Rounds.{first_round, line_behind}
use Rattle.cc_ops.specs.Ops.{Ops, Phase, Idle, Storing, Querying, StoringBack, is_idle, is_own, counted, merged, begin_round, with_begun, after_reply}
use Rattle.cc_ops.specs.Ops.{after_last, after_ack, again}
use Rattle.cc_node.specs.Core.{Core, quorum, asked_of, churn_told, asks_anew, anew_if, next, post}
use Rattle.cc_node.specs.Node.{Node, step, after}
use Rattle.cc_node.specs.Openings.{Opening, fresh}
use Rattle.cc_laws.specs.Clusters.{Member, Cluster, with_member, accepting, IsOwn, Move, Accept, Receive, Sync, Release, Resend, Crash, MovesBy}
use Rattle.cc_laws.specs.Runs.{Run, IsFreshCluster}
use Rattle.cc_laws.specs.Fixed.{count_of, IsFixedMember, IsFixedCluster, StaysBy, Stays}
use Rattle.cc_laws.specs.Regular.{released_events}
use Rattle.cc_laws.specs.Rounds.{need_in, Round, peers_of}
use Rattle.cc_laws.specs.Progress.{round_under}
use Rattle.cc_laws.proofs.Counted.{ended_is, round_enough}
use Rattle.cc_laws.proofs.Lists.{all_both, all_front, all_rest, all_take, at_some, all_at, either}
use Rattle.cc_laws.proofs.ClusterSteps.{Holds, IsAt, each_member}
use Rattle.cc_laws.proofs.ClusterMoves.{move_holds, crashed, synced, releasing}
use Rattle.cc_laws.proofs.Knowledge.{posted}
use Rattle.cc_laws.proofs.SteadyMembers.{KnowsFixed, IsOfRound, IsQuiet, quiet_post, fixed_next, fixed_along, fresh_fixed, quorum_next}
use Rattle.cc_laws.proofs.Traces.{MadeBy, WasMade, Traces, move_traces}
use Rattle.cc_laws.proofs.RoundResults.{of_round, of_ack, of_reply}

-- ---- a cluster

pub member_knows : (all : List ℕ) (c : Cluster) → Holds c → IsFixedCluster all c → (q : ℕ) (m : Member) → IsAt c q m
    → KnowsFixed all (fresh m.opening).core
member_knows all c h fixed q m at =
    let f = fixed q m at in
    fresh_fixed all m.opening f.initial (subst (λ (x : ℕ). IsTrue (set.contains (set.from_list all) x)) (sym (h.sound q m at).me) f.among)

abbrev pub AreQuiet : List ℕ → Cluster → Type 0
AreQuiet all c = (q : ℕ) (m : Member) → IsAt c q m → AllByRecursion (IsQuiet all) m.events

member_quiet : (all : List ℕ) (c : Cluster) (q : ℕ) (n : Member) → AreQuiet all c → AllByRecursion (IsQuiet all) n.events → AreQuiet all (with_member q n c)
member_quiet all c q n h k = each_member (λ _ o. AllByRecursion (IsQuiet all) o.events) c q n k h

-- what is sent in a quiet cluster is of a round, or tells its members
sent_quiet : (all : List ℕ) (c : Cluster) → Holds c → IsFixedCluster all c → AreQuiet all c → (f to n : ℕ) (k : Message) → MadeBy c f (output.Send to n k)
    → IsOfRound all k
sent_quiet all c holds fixed h f to n k made =
    let m = made.0 in
    let p = posted m to n k made.2 in
    let released : AllByRecursion (IsQuiet all) (released_events m) = all_take (IsQuiet all) m.released m.events (h f m made.1) in
    let parts : AllByRecursion (IsQuiet all) (p.before ++ p.here ∷ p.later) = subst (AllByRecursion (IsQuiet all)) p.parts released in
    let before = all_front (IsQuiet all) p.before (p.here ∷ p.later) parts in
    let there = (all_rest (IsQuiet all) p.before (p.here ∷ p.later) parts).0 in
    let knows = fixed_along all (fresh m.opening) (member_knows all c holds fixed f m made.1) p.before before in
    at_some (IsOfRound all) (post (after (fresh m.opening) p.before).core p.here) k p.posts
    (quiet_post all (after (fresh m.opening) p.before).core knows p.here there)

own_quiet : (all : List ℕ) (e : Event) → IsOwn e → StaysBy e → IsQuiet all e
own_quiet all event.Enter h k = absurd k
own_quiet all event.Leave h k = absurd k
own_quiet all (event.Deliver from n m) h k = absurd h
own_quiet all (event.Retire q) h k = absurd k
own_quiet all _ h k = tt

module _ (all : List ℕ) (c : Cluster) (q : ℕ) (m : Member) (fixed : IsFixedCluster all c) (at : IsAt c q m) where
  move_quiet : (move : Move) (d : Cluster) → Holds c → Traces c → AreQuiet all c → Stays move → MovesBy c q m move d → AreQuiet all d
  move_quiet (Accept e) d holds t h k s =
      subst (AreQuiet all) (sym s.2)
      (member_quiet all c q (accepting e m) h (all_both (IsQuiet all) m.events (e ∷ []) (h q m at) (own_quiet all e s.0 k, tt)))
  move_quiet (Receive from n x) d holds t h k s =
      let made : MadeBy c from (output.Send q n x) = all_at (WasMade c) c.sent _ t.sent s.0 in
      let e = event.Deliver from n x in
      subst (AreQuiet all) (sym s.2)
      (member_quiet all c q (accepting e m) h (all_both (IsQuiet all) m.events (e ∷ []) (h q m at) (sent_quiet all c holds fixed h from q n x made, tt)))
  move_quiet (Sync j) d holds t h k s = subst (AreQuiet all) (sym s.2) (member_quiet all c q (synced j m) h (h q m at))
  move_quiet (Release j) d holds t h k s = subst (AreQuiet all) (sym s.2) (member_quiet all c q (releasing j m) h (h q m at))
  move_quiet (Resend o) d holds t h k s = subst (AreQuiet all) (sym s.1) h
  move_quiet (Crash j) d holds t h k s =
      subst (AreQuiet all) (sym s.2) (member_quiet all c q (crashed j m) h (all_take (IsQuiet all) j m.events (h q m at)))

  in_place : (n : Member) → n.opening ≡ m.opening → IsFixedCluster all (with_member q n c)
  in_place n opening =
      let old = fixed q m at in
      each_member (IsFixedMember all) c q n (record {
        initial = ap (λ (x : Opening). x.initial) opening ∙ old.initial;
        among = old.among;
        majority = subst (λ (x : Opening). count_of all < 2 * needed x.beta (count_of all)) (sym opening) old.majority;
      }) fixed

  move_fixed : (move : Move) (d : Cluster) → MovesBy c q m move d → IsFixedCluster all d
  move_fixed (Accept e) d s = subst (IsFixedCluster all) (sym s.2) (in_place (accepting e m) refl)
  move_fixed (Receive from n x) d s = subst (IsFixedCluster all) (sym s.2) (in_place (accepting (event.Deliver from n x) m) refl)
  move_fixed (Sync j) d s = subst (IsFixedCluster all) (sym s.2) (in_place (synced j m) refl)
  move_fixed (Release j) d s = subst (IsFixedCluster all) (sym s.2) (in_place (releasing j m) refl)
  move_fixed (Resend o) d s = subst (IsFixedCluster all) (sym s.1) fixed
  move_fixed (Crash j) d s = subst (IsFixedCluster all) (sym s.2) (in_place (crashed j m) refl)

pub run_steady : (all : List ℕ) (c : Cluster) (moves : List (ℕ × Move)) (d : Cluster) → Holds c → Traces c → AreQuiet all c → IsFixedCluster all c
    → AllByRecursion (λ move. Stays move.1) moves → Run c moves d
    → AreQuiet all d × IsFixedCluster all d
run_steady all c [] d h t quiet fixed k r = (subst (AreQuiet all) (sym r) quiet, subst (IsFixedCluster all) (sym r) fixed)
run_steady all c (move ∷ moves) d h t quiet fixed k r =
    let q = move.0 in
    let m = r.1.0 in
    let at = r.1.1 in
    run_steady all r.0 moves d (move_holds c q m h at move.1 r.0 r.1.2) (move_traces c q m h at t move.1 r.0 r.1.2)
    (move_quiet all c q m fixed at move.1 r.0 h t quiet k.0 r.1.2) (move_fixed all c q m fixed at move.1 r.0 r.1.2) k.1 r.2

pub fresh_quiet : (all : List ℕ) (c : Cluster) → IsFreshCluster c → AreQuiet all c
fresh_quiet all c h q m at = subst (AllByRecursion (IsQuiet all)) (sym (h.members q m at).events) tt

-- ---- how many answers a round needs

without_none : (s : set.NatSet) → set.difference s set.empty ≡ s
without_none s =
    same_ids (set.difference s set.empty) s
    (λ q. contains-difference s set.empty q ∙ ap (λ b. set.contains s q && not b) (contains-empty q) ∙ and_true (set.contains s q))
  where
    and_true : (b : Bool) → (b && true) ≡ b
    and_true true = refl
    and_true false = refl

pub fresh_quorum : (o : Opening) → quorum (fresh o).core ≡ needed o.beta (count_of o.initial)
unfolding fresh
fresh_quorum o = ap (λ (s : set.NatSet). needed o.beta (set.len s)) (without_none (set.from_list o.initial))

abbrev pub Needs : ℕ → Phase → Type 0
Needs need Idle = ⊤
Needs need (Storing p) = p.need ≡ need
Needs need (Querying p) = p.need ≡ need
Needs need (StoringBack p seen) = p.need ≡ need

module _ (need : ℕ) where
  round_needs : (me quorum : ℕ) (asks : List Asked) (s : Ops) → quorum ≡ need → Needs need (begin_round me quorum asks s).phase
  round_needs me quorum [] s is = tt
  round_needs me quorum (a ∷ others) s is = of_round (λ t. Needs need t.phase) me quorum a others s (λ _. is) (λ _. is)

  last_needs : (me quorum : ℕ) (s : Ops) → quorum ≡ need → Needs need (after_last me quorum s).phase
  last_needs me quorum s = round_needs me quorum (first_round s.share s.line) (record s { line = line_behind s.share s.line })

  ack_needs : (me quorum : ℕ) (s : Ops) → quorum ≡ need → (phase : Phase) → Needs need phase → Needs need s.phase
      → Needs need (after_ack me quorum phase s).phase
  ack_needs me quorum s same (Storing p) k h =
      of_ack (λ t. Needs need t.phase) me quorum p (Storing (counted p)) s (last_needs me quorum s same) k
  ack_needs me quorum s same (StoringBack p seen) k h =
      of_ack (λ t. Needs need t.phase) me quorum p (StoringBack (counted p) seen) s (last_needs me quorum s same) k
  ack_needs me quorum s same _ k h = h

  reply_needs : (quorum : ℕ) (v : ViewMap) (s : Ops) → quorum ≡ need → (phase : Phase) → Needs need phase → Needs need s.phase
      → Needs need (after_reply quorum v phase s).phase
  reply_needs quorum v s same (Querying p) k h = of_reply (λ t. Needs need t.phase) quorum v p s same k
  reply_needs quorum v s same _ k h = h

  again_needs : (quorum : ℕ) (phase : Phase) → quorum ≡ need → Needs need (again quorum phase)
  again_needs quorum Idle is = tt
  again_needs quorum _ is = is

  -- a phase that begins anew needs as many as one that begins then
  anew_needs : (b : Bool) (quorum : ℕ) (s : Ops) → quorum ≡ need → Needs need s.phase → Needs need (anew_if b quorum s).phase
  anew_needs true quorum s is h = again_needs quorum s.phase is
  anew_needs false quorum s is h = h

  message_needs : (c : Core) (from n : ℕ) (m : Message) → quorum c ≡ need → quorum (next c (event.Deliver from n m)) ≡ need → Needs need c.ops.phase
      → Needs need (next c (event.Deliver from n m)).ops.phase
  unfolding next
  message_needs c from n (message.QueryReply v tag q) same next_same h =
      either (λ (t : Ops). Needs need t.phase) (is_own c.me tag q c.ops) (after_reply (quorum c) v c.ops.phase c.ops) c.ops
      (reply_needs (quorum c) v c.ops same c.ops.phase h h) h
  message_needs c from n (message.StoreAck tag q) same next_same h =
      either (λ (t : Ops). Needs need t.phase) (is_own c.me tag q c.ops) (after_ack c.me (quorum c) c.ops.phase c.ops) c.ops
      (ack_needs c.me (quorum c) c.ops same c.ops.phase h h) h
  message_needs c from n (message.Snapshot d v) same next_same h =
      let m = message.Snapshot d v in
      anew_needs (asks_anew c from n m) (churn.quorum c.beta (churn_told c from n m)) (merged v c.ops) next_same h
  message_needs c from n _ same next_same h = h

  event_needs : (c : Core) (e : Event) → quorum c ≡ need → quorum (next c e) ≡ need → Needs need c.ops.phase → Needs need (next c e).ops.phase
  unfolding next
  event_needs c (event.Deliver from n m) same next_same h = message_needs c from n m same next_same h
  event_needs c (event.Ask s r command) same next_same h =
      let a = asked_of s r command in
      either (λ (t : Ops). Needs need t.phase) (is_idle c.ops.phase) (with_begun c.me (quorum c) a c.ops) (record c.ops { line = c.ops.line ++ a ∷ [] })
      (round_needs c.me (quorum c) (a ∷ []) c.ops same) h
  event_needs c _ same next_same h = h

  needs_along : (all : List ℕ) (n : Node) (es : List Event) → KnowsFixed all n.core → quorum n.core ≡ need → AllByRecursion (IsQuiet all) es
      → Needs need n.core.ops.phase → Needs need (after n es).core.ops.phase
  unfolding step
  needs_along all n [] knows same quiet h = h
  needs_along all n (e ∷ es) knows same quiet h =
      let next_same = quorum_next all n.core knows e quiet.0 ∙ same in
      needs_along all (step n e) es (fixed_next all n.core knows e quiet.0) next_same quiet.1 (event_needs n.core e same next_same h)

  needs_is : (tag : ℕ) (phase : Phase) → is_some (round_under tag phase) ≡ true → Needs need phase → need_in phase ≡ need
  needs_is tag Idle some h = cc
  needs_is tag _ some h = h

fresh_needs : (need : ℕ) (o : Opening) → Needs need (fresh o).core.ops.phase
unfolding fresh
fresh_needs need o = tt

-- a round that ended counted as many answers as a round needs that begins
pub round_size : (all : List ℕ) (o : Opening) (es : List Event) → KnowsFixed all (fresh o).core → AllByRecursion (IsQuiet all) es → (round : Round (fresh o) es)
    → length (peers_of (fresh o) es round) ≡ quorum (fresh o).core
round_size all o es knows quiet round =
    let need = quorum (fresh o).core in
    let front : AllByRecursion (IsQuiet all) round.before =
    all_front (IsQuiet all) round.before (round.last ∷ round.later) (subst (AllByRecursion (IsQuiet all)) round.parts quiet) in
    let c = (after (fresh o) round.before).core in
    round_enough o es round
    ∙ needs_is need c.ops.tag c.ops.phase ((ended_is c round.last).0 round.ends).pended
    (needs_along need all (fresh o) round.before knows refl front (fresh_needs need o))
