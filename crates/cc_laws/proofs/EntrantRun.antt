-- A cluster of one node that stores and is answered; then node 2 enters and joins, collects, and is answered.
--     start, mid, end       before the store, after its answer, and after that of the collect
--     to_mid, to_end        from the one to the other, by these moves
use Rattle.std.proofs.Common.{◌≡◌, ℕ, zero, suc, ◌+◌, ◌<◌, ◌≤◌, true, inl, inr, List, [], ◌∷◌, ◌++◌, length, refl, subst, sym, arith}
use Rattle.std.specs.Prelude.{Some, slice_index_or}
use Rattle.std.specs.FinMap as table
use Rattle.cc_messages.specs.declared.answer.Answer.TheVariants as answer
use Rattle.cc_messages.specs.declared.command.Command.TheVariants as command
use Rattle.cc_messages.specs.declared.event.Event.{Event}
use Rattle.cc_messages.specs.declared.event.Event.TheVariants as event
use Rattle.cc_messages.specs.declared.output.Output.TheVariants as output
use Rattle.cc_sessions.specs.Sessions.{last_request}
use Rattle.cc_ops.specs.Ops.{pending}
use Rattle.cc_node.specs.Core.{asked_of}
use Rattle.cc_node.specs.Node.{Node, after}
use Rattle.cc_node.specs.Openings.{Opening, IsOpening, fresh}
use Rattle.cc_laws.specs.Clusters.{Member, Cluster, Sent, Move, Accept, Receive}
use Rattle.cc_laws.specs.Rounds.{Round, awaits_acks, awaits_views, ends_round, counts, peers_along}
use Rattle.cc_laws.specs.Runs.{IsFreshCluster}
use Rattle.cc_laws.specs.Regular.{IsAnswered, IsStored, IsAhead, RoundOf, HasAsked, SharedRounds, ShareNode}
use Rattle.cc_laws.proofs.MapInsertions.{tables}
use Rattle.cc_laws.proofs.TwoNodes.{both, view, stored, acked, queried, replied, stores, collects}
use Rattle.cc_laws.proofs.EntrantNodes as nodes
use Rattle.cc_laws.proofs.EntrantNodes.{first_opening, entrant, entering, echo, joining, join_echo, stored_back, acked_back}
use Rattle.cc_laws.proofs.Turns.{lived, sent_by, turn}
use Rattle.cc_laws.proofs.Hubs.{last_counted}
use Rattle.cc_laws.proofs.Stages.{two, Stage, own_1, own_2, hear_1, hear_2, fresh_two}

-- ---- the store: node 1 is alone

abbrev pub start : Cluster
start = two first_opening entrant [] [] []

begun : Stage first_opening entrant start [] [] [] nodes.c0 nodes.d0 []
begun = record { run = refl; first = nodes.begins_1; second = nodes.begins_2 }

abbrev to_store : List Event
to_store = stores ∷ event.Deliver 1 1 stored ∷ []

abbrev es_mid : List Event
es_mid = to_store ++ event.Deliver 1 2 acked ∷ []

abbrev sent_store : List Sent
sent_store = sent_by 1 (output.Send 1 1 stored ∷ []) ++ sent_by 1 (output.Ack 1 1 ∷ output.Send 1 2 acked ∷ [])

abbrev sent_mid : List Sent
sent_mid = sent_store ++ sent_by 1 (output.Ack 1 2 ∷ output.Reply 7 1 answer.Stored ∷ [])

abbrev moves_store : List (ℕ × Move)
moves_store = turn 1 (Accept stores) 0 ++ turn 1 (Receive 1 1 stored) 1

abbrev pub first_moves : List (ℕ × Move)
first_moves = moves_store ++ turn 1 (Receive 1 2 acked) 2

abbrev pub mid : Cluster
mid = two first_opening entrant es_mid [] sent_mid

-- its own acknowledgement is the last one
storing : Stage first_opening entrant start moves_store to_store [] nodes.c2 nodes.d0 sent_store
storing =
    let x1 = own_1 begun stores nodes.c1 (output.Send 1 1 stored ∷ []) nodes.to_c1 tt in
    hear_1 x1 1 1 stored nodes.c2 (output.Ack 1 1 ∷ output.Send 1 2 acked ∷ []) nodes.to_c2 (0, omega arith, refl)

pub to_mid : Stage first_opening entrant start first_moves es_mid [] nodes.c3 nodes.d0 sent_mid
to_mid = hear_1 storing 1 2 acked nodes.c3 (output.Ack 1 2 ∷ output.Reply 7 1 answer.Stored ∷ []) nodes.to_c3 (2, omega arith, refl)

-- ---- the collect: node 2 enters, is told who is there, and joins; node 1 replies to what it asks, and acknowledges what it stores back

waiting : Stage first_opening entrant mid [] es_mid [] nodes.c3 nodes.d0 sent_mid
waiting = record { run = refl; first = to_mid.first; second = to_mid.second }

abbrev es_query : List Event
es_query = es_mid ++ event.Deliver 2 1 entering ∷ event.Deliver 2 2 joining ∷ event.Deliver 2 3 queried ∷ []

abbrev fs_query : List Event
fs_query = event.Enter ∷ event.Deliver 1 1 echo ∷ collects ∷ event.Deliver 1 2 join_echo ∷ []

abbrev sent_query : List Sent
sent_query =
    sent_mid
    ++ sent_by 2 (both 1 entering)
    ++ sent_by 1 (output.Ack 2 1 ∷ output.Send 1 3 echo ∷ output.Send 2 1 echo ∷ [])
    ++ sent_by 2 (output.Ack 1 1 ∷ both 2 joining)
    ++ sent_by 2 (both 3 queried)
    ++ sent_by 1 (output.Ack 2 2 ∷ output.Send 1 4 join_echo ∷ output.Send 2 2 join_echo ∷ [])
    ++ sent_by 1 (output.Ack 2 3 ∷ output.Send 1 5 replied ∷ output.Send 2 3 replied ∷ [])
    ++ sent_by 2 (output.Ack 1 2 ∷ [])

abbrev moves_query : List (ℕ × Move)
moves_query =
    turn 2 (Accept event.Enter) 0
    ++ turn 1 (Receive 2 1 entering) 3
    ++ turn 2 (Receive 1 1 echo) 1
    ++ turn 2 (Accept collects) 2
    ++ turn 1 (Receive 2 2 joining) 4
    ++ turn 1 (Receive 2 3 queried) 5
    ++ turn 2 (Receive 1 2 join_echo) 3

querying : Stage first_opening entrant mid moves_query es_query fs_query nodes.c6 nodes.d4 sent_query
querying =
    let x1 = own_2 waiting event.Enter nodes.d1 (both 1 entering) nodes.to_d1 tt in
    let x2 = hear_1 x1 2 1 entering nodes.c4 (output.Ack 2 1 ∷ output.Send 1 3 echo ∷ output.Send 2 1 echo ∷ []) nodes.to_c4 (5, omega arith, refl) in
    let x3 = hear_2 x2 1 1 echo nodes.d2 (output.Ack 1 1 ∷ both 2 joining) nodes.to_d2 (9, omega arith, refl) in
    let x4 = own_2 x3 collects nodes.d3 (both 3 queried) nodes.to_d3 tt in
    let x5 = hear_1 x4 2 2 joining nodes.c5 (output.Ack 2 2 ∷ output.Send 1 4 join_echo ∷ output.Send 2 2 join_echo ∷ []) nodes.to_c5 (11, omega arith, refl) in
    let x6 = hear_1 x5 2 3 queried nodes.c6 (output.Ack 2 3 ∷ output.Send 1 5 replied ∷ output.Send 2 3 replied ∷ []) nodes.to_c6 (13, omega arith, refl) in
    hear_2 x6 1 2 join_echo nodes.d4 (output.Ack 1 2 ∷ []) nodes.to_d4 (17, omega arith, refl)

abbrev pub es_end : List Event
es_end = es_query ++ event.Deliver 2 4 stored_back ∷ []

abbrev pub fs_end : List Event
fs_end = fs_query ++ event.Deliver 1 3 replied ∷ event.Deliver 1 4 acked_back ∷ []

abbrev pub sent_end : List Sent
sent_end =
    sent_query
    ++ sent_by 2 (output.Ack 1 3 ∷ both 4 stored_back)
    ++ sent_by 1 (output.Ack 2 4 ∷ output.Send 1 6 acked_back ∷ output.Send 2 4 acked_back ∷ [])
    ++ sent_by 2 (output.Ack 1 4 ∷ output.Reply 9 1 (answer.Seen view) ∷ [])

abbrev pub second_moves : List (ℕ × Move)
second_moves = moves_query ++ turn 2 (Receive 1 3 replied) 4 ++ turn 1 (Receive 2 4 stored_back) 6 ++ turn 2 (Receive 1 4 acked_back) 5

abbrev pub end : Cluster
end = two first_opening entrant es_end fs_end sent_end

pub to_end : Stage first_opening entrant mid second_moves es_end fs_end nodes.c7 nodes.d6 sent_end
to_end =
    let x1 = hear_2 querying 1 3 replied nodes.d5 (output.Ack 1 3 ∷ both 4 stored_back) nodes.to_d5 (20, omega arith, refl) in
    let x2 = hear_1 x1 2 4 stored_back nodes.c7 (output.Ack 2 4 ∷ output.Send 1 6 acked_back ∷ output.Send 2 4 acked_back ∷ []) nodes.to_c7 (23, omega arith, refl) in
    hear_2 x2 1 4 acked_back nodes.d6 (output.Ack 1 4 ∷ output.Reply 9 1 (answer.Seen view) ∷ []) nodes.to_d6 (27, omega arith, refl)

-- ---- the premises

no_zero : (me other k : ℕ) → 1 ≤ me → 1 ≤ other → k < 2 → slice_index_or (me ∷ other ∷ []) k 0 ≡ 0 → ⊥
no_zero me other zero some more below is = omega (arith, some, is)
no_zero me other (suc zero) some more below is = omega (arith, more, is)
no_zero me other (suc (suc k)) some more below is = omega (arith, below)

opens_1 : IsOpening first_opening
opens_1 = record {
  no_zero = λ c. no_zero 1 1 c.0 (omega arith) (omega arith) c.1 c.2;
  initial_ascends = λ k below. absurd (omega (arith, below));
  contacts_ascend = λ k below. absurd (omega (arith, below));
  own_initial = inr (0, omega arith, refl);
  no_own_contact = λ c. omega (arith, c.1);
  few = simp tables (omega arith);
  beta = record { above = omega arith; within = omega arith };
  gamma = record { above = omega arith; within = omega arith };
  some = omega arith;
  most = omega arith;
}

not_its_own : (other me k : ℕ) → other < me → k < 1 → slice_index_or (other ∷ []) k me ≡ me → ⊥
not_its_own other me zero apart below is = omega (arith, apart, is)
not_its_own other me (suc k) apart below is = omega (arith, below)

opens_2 : IsOpening entrant
opens_2 = record {
  no_zero = λ c. no_zero 2 1 c.0 (omega arith) (omega arith) c.1 c.2;
  initial_ascends = λ k below. absurd (omega (arith, below));
  contacts_ascend = λ k below. absurd (omega (arith, below));
  own_initial = inl refl;
  no_own_contact = λ c. not_its_own 1 2 c.0 (omega arith) c.1 c.2;
  few = simp tables (omega arith);
  beta = record { above = omega arith; within = omega arith };
  gamma = record { above = omega arith; within = omega arith };
  some = omega arith;
  most = omega arith;
}

pub is_fresh : IsFreshCluster start
is_fresh = fresh_two first_opening entrant refl refl opens_1 opens_2

pub is_stored : IsStored mid 1 1 7 1
is_stored = (
  lived first_opening es_mid,
  simp tables refl,
  record {
    before = [];
    command = command.Store (0x61 ∷ []);
    later = event.Deliver 1 1 stored ∷ event.Deliver 1 2 acked ∷ [];
    parts = refl;
    writes = refl;
    number = refl;
  },
  (4, omega arith, refl),
)

pub is_ahead : IsAhead mid 2 9 1
is_ahead = (
  lived entrant [],
  simp tables refl,
  subst (λ (n : Node). last_request n.core.sessions 9 < 1) (sym nodes.begins_2) (simp tables (omega arith)),
)

pub is_answered : IsAnswered end 2 9 1 (answer.Seen view)
is_answered = (29, omega arith, refl)

-- ---- the node that both rounds counted: node 1, with its own acknowledgement and with its reply

store_round : RoundOf (lived first_opening es_mid)
store_round = record {
  before = to_store;
  last = event.Deliver 1 2 acked;
  later = [];
  parts = refl;
  ends = subst (λ (n : Node). ends_round n.core (event.Deliver 1 2 acked) ≡ true) (sym storing.first) refl;
}

query_round : RoundOf (lived entrant fs_end)
query_round = record {
  before = fs_query;
  last = event.Deliver 1 3 replied;
  later = event.Deliver 1 4 acked_back ∷ [];
  parts = refl;
  ends = subst (λ (n : Node). ends_round n.core (event.Deliver 1 3 replied) ≡ true) (sym querying.second) refl;
}

pub shared_rounds : SharedRounds (lived first_opening es_mid) (lived entrant fs_end) 7 1 9 1
unfolding store_round query_round
shared_rounds = record {
  first = store_round;
  stored = subst (λ (n : Node). awaits_acks n.core.ops.phase ≡ true) (sym storing.first) refl;
  of_first = subst (λ (n : Node). HasAsked (pending n.core.ops) 7 1) (sym storing.first)
      (asked_of 7 1 (command.Store (0x61 ∷ [])), (0, omega arith, refl), refl, refl);
  second = query_round;
  queried = subst (λ (n : Node). awaits_views n.core.ops.phase ≡ true) (sym querying.second) refl;
  of_second = subst (λ (n : Node). HasAsked (pending n.core.ops) 9 1) (sym querying.second)
      (asked_of 9 1 command.Collect, (0, omega arith, refl), refl, refl);
  peer = 1;
  in_first = last_counted _ 1 (peers_along (fresh first_opening) [] to_store)
      (subst (λ (n : Node). Some 1 ≡ counts n.core (event.Deliver 1 2 acked)) (sym storing.first) refl);
  in_second = last_counted _ 1 (peers_along (fresh entrant) [] fs_query)
      (subst (λ (n : Node). Some 1 ≡ counts n.core (event.Deliver 1 3 replied)) (sym querying.second) refl);
}

pub share_node : ShareNode mid end 1 7 1 2 9 1
share_node = record {
  earlier = lived first_opening es_mid;
  later = lived entrant fs_end;
  is_earlier = simp tables refl;
  is_later = simp tables refl;
  rounds = shared_rounds;
}

abbrev pub later : Member
later = lived entrant fs_end

pub is_entrant : table.get end.members 2 ≡ Some later
is_entrant = simp tables refl

-- as it began
abbrev pub began : Member
began = lived entrant []

pub is_entrant_at_start : table.get start.members 2 ≡ Some began
is_entrant_at_start = simp tables refl
