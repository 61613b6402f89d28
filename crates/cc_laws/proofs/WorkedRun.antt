-- A cluster of two nodes whose members stay the same: node 1 stores and is answered, and then node 2 collects, crashes and
-- comes back, asks anew, and is answered.
--     start, mid, end       before the store, after its answer, and after that of the collect
--     to_mid, to_end        from the one to the other, by these moves
use Rattle.std.proofs.Common.{◌≡◌, ℕ, zero, suc, ◌+◌, ◌<◌, ◌≤◌, Bool, true, false, inr, List, [], ◌∷◌, ◌++◌, refl, subst, sym, arith}
use Rattle.std.specs.Prelude.{Some, slice_index, slice_index_or}
use Rattle.std.specs.List.{Contains, AllByRecursion, list_all}
use Rattle.std.proofs.lemmas.Bool.{and_parts}
use Rattle.std.specs.FinMap as table
use Rattle.cc_views.specs.NatSets as set
use Rattle.cc_messages.specs.declared.answer.Answer.TheVariants as answer
use Rattle.cc_messages.specs.declared.command.Command.TheVariants as command
use Rattle.cc_messages.specs.declared.event.Event.{Event}
use Rattle.cc_messages.specs.declared.event.Event.TheVariants as event
use Rattle.cc_messages.specs.declared.output.Output.TheVariants as output
use Rattle.cc_sessions.specs.Sessions.{last_request}
use Rattle.cc_node.specs.Node.{Node}
use Rattle.cc_node.specs.Openings.{IsOpening}
use Rattle.cc_laws.specs.Clusters.{Member, Cluster, Sent, Move, Accept, Receive}
use Rattle.cc_laws.specs.Runs.{IsFreshCluster}
use Rattle.cc_laws.specs.Regular.{IsAnswered, IsStored, IsAhead}
use Rattle.cc_laws.specs.Fixed.{IsFixedMember, IsFixedCluster, Stays}
use Rattle.cc_laws.proofs.MapInsertions.{tables}
use Rattle.cc_laws.proofs.TwoNodes as nodes
use Rattle.cc_laws.proofs.TwoNodes.{opening_of, both, view, stored, acked, queried, replied, snapshot, queried_anew, replied_anew}
use Rattle.cc_laws.proofs.TwoNodes.{stored_back, acked_back, queried_next, stores, collects, waits}
use Rattle.cc_laws.proofs.Turns.{lived, sent_by, turn, lost}
use Rattle.cc_laws.proofs.Stages.{two, Stage, own_1, own_2, hear_1, hear_2, lose_2, both_hold, fresh_two}

-- ---- the store: node 1 is asked, both acknowledge it, and it is answered

abbrev pub start : Cluster
start = two (opening_of 1) (opening_of 2) [] [] []

begun : Stage (opening_of 1) (opening_of 2) start [] [] [] nodes.a0 nodes.b0 []
begun = record { run = refl; first = nodes.begins_1; second = nodes.begins_2 }

abbrev es_mid : List Event
es_mid = stores ∷ event.Deliver 1 1 stored ∷ event.Deliver 1 2 acked ∷ event.Deliver 2 1 acked ∷ []

abbrev fs_mid : List Event
fs_mid = event.Deliver 1 1 stored ∷ []

abbrev sent_mid : List Sent
sent_mid =
    sent_by 1 (both 1 stored)
    ++ sent_by 2 (output.Ack 1 1 ∷ both 1 acked)
    ++ sent_by 1 (output.Ack 1 1 ∷ both 2 acked)
    ++ sent_by 1 (output.Ack 1 2 ∷ [])
    ++ sent_by 1 (output.Ack 2 1 ∷ output.Reply 7 1 answer.Stored ∷ [])

abbrev pub first_moves : List (ℕ × Move)
first_moves =
    turn 1 (Accept stores) 0 ++ turn 2 (Receive 1 1 stored) 0 ++ turn 1 (Receive 1 1 stored) 1 ++ turn 1 (Receive 1 2 acked) 2
    ++ turn 1 (Receive 2 1 acked) 3

abbrev pub mid : Cluster
mid = two (opening_of 1) (opening_of 2) es_mid fs_mid sent_mid

pub to_mid : Stage (opening_of 1) (opening_of 2) start first_moves es_mid fs_mid nodes.a4 nodes.b1 sent_mid
to_mid =
    let x1 = own_1 begun stores nodes.a1 (both 1 stored) nodes.to_a1 tt in
    let x2 = hear_2 x1 1 1 stored nodes.b1 (output.Ack 1 1 ∷ both 1 acked) nodes.to_b1 (1, omega arith, refl) in
    let x3 = hear_1 x2 1 1 stored nodes.a2 (output.Ack 1 1 ∷ both 2 acked) nodes.to_a2 (0, omega arith, refl) in
    let x4 = hear_1 x3 1 2 acked nodes.a3 (output.Ack 1 2 ∷ []) nodes.to_a3 (6, omega arith, refl) in
    hear_1 x4 2 1 acked nodes.a4 (output.Ack 2 1 ∷ output.Reply 7 1 answer.Stored ∷ []) nodes.to_a4 (3, omega arith, refl)

-- ---- the collect: node 2 is asked, and asked again by another; node 1 replies, lets the reply lapse, and posts a snapshot. Node 2
-- takes that after a crash, and asks anew; both reply, both acknowledge what it stores back, and it is answered

waiting : Stage (opening_of 1) (opening_of 2) mid [] es_mid fs_mid nodes.a4 nodes.b1 sent_mid
waiting = record { run = refl; first = to_mid.first; second = to_mid.second }

abbrev es_end : List Event
es_end =
    es_mid ++ event.Deliver 2 2 queried ∷ event.Lapse 2 ∷ event.Snapshot ∷ event.Deliver 2 3 queried_anew ∷ event.Deliver 2 4 replied ∷ event.Deliver 2 5 replied_anew ∷ event.Deliver 2 6 stored_back ∷ []

abbrev fs_end : List Event
fs_end =
    fs_mid ++ collects ∷ waits ∷ event.Deliver 1 4 snapshot ∷ event.Deliver 2 1 acked ∷ event.Deliver 2 2 queried ∷ event.Deliver 2 3 queried_anew ∷ event.Deliver 2 4 replied ∷ event.Deliver 2 5 replied_anew ∷ event.Deliver 1 5 replied_anew ∷ event.Deliver 2 6 stored_back ∷ event.Deliver 2 7 acked_back ∷ event.Deliver 1 6 acked_back ∷ []

abbrev sent_end : List Sent
sent_end =
    sent_mid
    ++ sent_by 2 (both 2 queried)
    ++ sent_by 2 []
    ++ sent_by 1 (output.Ack 2 2 ∷ both 3 replied)
    ++ sent_by 1 []
    ++ sent_by 1 (both 4 snapshot)
    ++ sent_by 2 (output.Ack 1 4 ∷ both 3 queried_anew)
    ++ sent_by 2 (output.Ack 2 1 ∷ [])
    ++ sent_by 2 (output.Ack 2 2 ∷ both 4 replied)
    ++ sent_by 2 (output.Ack 2 3 ∷ both 5 replied_anew)
    ++ sent_by 2 (output.Ack 2 4 ∷ [])
    ++ sent_by 2 (output.Ack 2 5 ∷ [])
    ++ sent_by 1 (output.Ack 2 3 ∷ both 5 replied_anew)
    ++ sent_by 2 (output.Ack 1 5 ∷ both 6 stored_back)
    ++ sent_by 1 (output.Ack 2 4 ∷ [])
    ++ sent_by 1 (output.Ack 2 5 ∷ [])
    ++ sent_by 1 (output.Ack 2 6 ∷ both 6 acked_back)
    ++ sent_by 2 (output.Ack 2 6 ∷ both 7 acked_back)
    ++ sent_by 2 (output.Ack 2 7 ∷ [])
    ++ sent_by 2 (output.Ack 1 6 ∷ both 8 queried_next ++ output.Reply 9 1 (answer.Seen view) ∷ [])

abbrev pub second_moves : List (ℕ × Move)
second_moves =
    turn 2 (Accept collects) 1
    ++ turn 2 (Accept waits) 2
    ++ turn 1 (Receive 2 2 queried) 4
    ++ turn 1 (Accept (event.Lapse 2)) 5
    ++ turn 1 (Accept event.Snapshot) 6
    ++ lost 2 (Receive 1 4 snapshot) 3
    ++ turn 2 (Receive 1 4 snapshot) 3
    ++ turn 2 (Receive 2 1 acked) 4
    ++ turn 2 (Receive 2 2 queried) 5
    ++ turn 2 (Receive 2 3 queried_anew) 6
    ++ turn 2 (Receive 2 4 replied) 7
    ++ turn 2 (Receive 2 5 replied_anew) 8
    ++ turn 1 (Receive 2 3 queried_anew) 7
    ++ turn 2 (Receive 1 5 replied_anew) 9
    ++ turn 1 (Receive 2 4 replied) 8
    ++ turn 1 (Receive 2 5 replied_anew) 9
    ++ turn 1 (Receive 2 6 stored_back) 10
    ++ turn 2 (Receive 2 6 stored_back) 10
    ++ turn 2 (Receive 2 7 acked_back) 11
    ++ turn 2 (Receive 1 6 acked_back) 12

abbrev pub end : Cluster
end = two (opening_of 1) (opening_of 2) es_end fs_end sent_end

pub to_end : Stage (opening_of 1) (opening_of 2) mid second_moves es_end fs_end nodes.a11 nodes.b13 sent_end
to_end =
    let x1 = own_2 waiting collects nodes.b2 (both 2 queried) nodes.to_b2 tt in
    let x2 = own_2 x1 waits nodes.b3 [] nodes.to_b3 tt in
    let x3 = hear_1 x2 2 2 queried nodes.a5 (output.Ack 2 2 ∷ both 3 replied) nodes.to_a5 (11, omega arith, refl) in
    let x4 = own_1 x3 (event.Lapse 2) nodes.a6 [] nodes.to_a6 tt in
    let x5 = own_1 x4 event.Snapshot nodes.a7 (both 4 snapshot) nodes.to_a7 tt in
    let x6 = lose_2 x5 1 4 snapshot nodes.b4 (output.Ack 1 4 ∷ both 3 queried_anew) nodes.to_b4 (17, omega arith, refl) in
    let x7 = hear_2 x6 1 4 snapshot nodes.b4 (output.Ack 1 4 ∷ both 3 queried_anew) nodes.to_b4 (17, omega arith, refl) in
    let x8 = hear_2 x7 2 1 acked nodes.b5 (output.Ack 2 1 ∷ []) nodes.to_b5 (4, omega arith, refl) in
    let x9 = hear_2 x8 2 2 queried nodes.b6 (output.Ack 2 2 ∷ both 4 replied) nodes.to_b6 (12, omega arith, refl) in
    let x10 = hear_2 x9 2 3 queried_anew nodes.b7 (output.Ack 2 3 ∷ both 5 replied_anew) nodes.to_b7 (20, omega arith, refl) in
    let x11 = hear_2 x10 2 4 replied nodes.b8 (output.Ack 2 4 ∷ []) nodes.to_b8 (24, omega arith, refl) in
    let x12 = hear_2 x11 2 5 replied_anew nodes.b9 (output.Ack 2 5 ∷ []) nodes.to_b9 (27, omega arith, refl) in
    let x13 = hear_1 x12 2 3 queried_anew nodes.a8 (output.Ack 2 3 ∷ both 5 replied_anew) nodes.to_a8 (19, omega arith, refl) in
    let x14 = hear_2 x13 1 5 replied_anew nodes.b10 (output.Ack 1 5 ∷ both 6 stored_back) nodes.to_b10 (32, omega arith, refl) in
    let x15 = hear_1 x14 2 4 replied nodes.a9 (output.Ack 2 4 ∷ []) nodes.to_a9 (23, omega arith, refl) in
    let x16 = hear_1 x15 2 5 replied_anew nodes.a10 (output.Ack 2 5 ∷ []) nodes.to_a10 (26, omega arith, refl) in
    let x17 = hear_1 x16 2 6 stored_back nodes.a11 (output.Ack 2 6 ∷ both 6 acked_back) nodes.to_a11 (34, omega arith, refl) in
    let x18 = hear_2 x17 2 6 stored_back nodes.b11 (output.Ack 2 6 ∷ both 7 acked_back) nodes.to_b11 (35, omega arith, refl) in
    let x19 = hear_2 x18 2 7 acked_back nodes.b12 (output.Ack 2 7 ∷ []) nodes.to_b12 (43, omega arith, refl) in
    hear_2 x19 1 6 acked_back nodes.b13 (output.Ack 1 6 ∷ both 8 queried_next ++ output.Reply 9 1 (answer.Seen view) ∷ []) nodes.to_b13 (40, omega arith, refl)

-- whether nobody enters, leaves or is retired with a move
abbrev pub calm : Move → Bool
calm (Accept event.Enter) = false
calm (Accept event.Leave) = false
calm (Accept (event.Retire q)) = false
calm _ = true

calm_stays : (move : Move) → calm move ≡ true → Stays move
calm_stays (Accept event.Enter) is = cc
calm_stays (Accept event.Leave) is = cc
calm_stays (Accept (event.Retire q)) is = cc
calm_stays _ is = tt

pub all_stay : (moves : List (ℕ × Move)) → list_all (λ (move : ℕ × Move). calm move.1) moves ≡ true
    → AllByRecursion (λ (move : ℕ × Move). Stays move.1) moves
all_stay [] all = tt
all_stay (move ∷ moves) all = let parts = and_parts (calm move.1) _ all in (calm_stays move.1 parts.0, all_stay moves parts.1)

pub first_stay : AllByRecursion (λ (move : ℕ × Move). Stays move.1) first_moves
first_stay = all_stay first_moves refl

pub second_stay : AllByRecursion (λ (move : ℕ × Move). Stays move.1) second_moves
second_stay = all_stay second_moves refl

-- ---- the premises

no_zero : (me k : ℕ) → 1 ≤ me → k < 3 → slice_index_or (me ∷ 1 ∷ 2 ∷ []) k 0 ≡ 0 → ⊥
no_zero me zero some below is = omega (arith, some, is)
no_zero me (suc zero) some below is = omega (arith, is)
no_zero me (suc (suc zero)) some below is = omega (arith, is)
no_zero me (suc (suc (suc k))) some below is = omega (arith, below)

ascends : (k : ℕ) → k + 1 < 2 → slice_index (1 ∷ 2 ∷ []) k < slice_index (1 ∷ 2 ∷ []) (k + 1)
ascends zero below = omega arith
ascends (suc k) below = absurd (omega (arith, below))

nothing_below : (me k : ℕ) → k < 0 → ⊥
nothing_below me k below = omega (arith, below)

pub opens : (me : ℕ) → 1 ≤ me → Contains (1 ∷ 2 ∷ []) me → set.len (set.from_list (me ∷ 1 ∷ 2 ∷ [])) ≤ 256 → IsOpening (opening_of me)
opens me some among few = record {
  no_zero = λ c. no_zero me c.0 some c.1 c.2;
  initial_ascends = ascends;
  contacts_ascend = λ k below. absurd (omega (arith, below));
  own_initial = inr among;
  no_own_contact = λ c. nothing_below me c.0 c.1;
  few = few;
  beta = record { above = omega arith; within = omega arith };
  gamma = record { above = omega arith; within = omega arith };
  some = omega arith;
  most = omega arith;
}

pub is_fresh : IsFreshCluster start
is_fresh =
    fresh_two (opening_of 1) (opening_of 2) refl refl (opens 1 (omega arith) (0, omega arith, refl) (simp tables (omega arith)))
    (opens 2 (omega arith) (1, omega arith, refl) (simp tables (omega arith)))

pub is_fixed : IsFixedCluster (1 ∷ 2 ∷ []) start
is_fixed =
    both_hold (opening_of 1) (opening_of 2) (IsFixedMember (1 ∷ 2 ∷ []))
    (record { initial = refl; among = simp tables refl; majority = simp tables (omega arith) })
    (record { initial = refl; among = simp tables refl; majority = simp tables (omega arith) })

pub shares : (q : ℕ) (m : Member) → table.get start.members q ≡ Some m → m.opening.share ≡ 32
shares = both_hold (opening_of 1) (opening_of 2) (λ q m. m.opening.share ≡ 32) refl refl

pub is_stored : IsStored mid 1 1 7 1
is_stored = (
  lived (opening_of 1) es_mid,
  simp tables refl,
  record {
    before = [];
    command = command.Store (0x61 ∷ []);
    later = event.Deliver 1 1 stored ∷ event.Deliver 1 2 acked ∷ event.Deliver 2 1 acked ∷ [];
    parts = refl;
    writes = refl;
    number = refl;
  },
  (10, omega arith, refl),
)

pub is_ahead : IsAhead mid 2 9 1
is_ahead = (
  lived (opening_of 2) fs_mid,
  simp tables refl,
  subst (λ (n : Node). last_request n.core.sessions 9 < 1) (sym to_mid.second) (simp tables (omega arith)),
)

pub is_answered : IsAnswered end 2 9 1 (answer.Seen view)
is_answered = (48, omega arith, refl)
