-- A cluster of two nodes that stay its only members and let one ask begin at a time. Node 1 adds a number to its set; node 2 collects twice, sets
-- its flag, and collects twice again.
--     part_1, .., part_4        up to the first collect's answer, the second one's, the third one's and the last one's
--     to_1, .., to_4, is_run    the run, part by part and as one
--     by_9, by_10               the double collects of session 9 and session 10
use Rattle.std.proofs.Common.{◌≡◌, ℕ, ◌<◌, ◌≤◌, true, false, List, [], ◌∷◌, ◌++◌, drop, refl, subst, sym, arith}
use Rattle.std.specs.Prelude.{Option, Some, IsSomeAnd}
use Rattle.std.specs.List.{Contains, AllByRecursion}
use Rattle.std.specs.FinMap as table
use Rattle.cc_views.specs.NatSets as set
use Rattle.cc_views.specs.Rows.{rows_of}
use Rattle.cc_messages.specs.declared.answer.Answer.TheVariants as answer
use Rattle.cc_messages.specs.declared.command.Command.TheVariants as command
use Rattle.cc_messages.specs.declared.output.Output.TheVariants as output
use Rattle.cc_objects.specs.Objects.{flag_of, set_of}
use Rattle.cc_sessions.specs.Sessions.{last_request}
use Rattle.cc_node.specs.Node.{Node}
use Rattle.cc_node.specs.Openings.{IsOpening}
use Rattle.cc_laws.specs.Clusters.{Member, Cluster, Move}
use Rattle.cc_laws.specs.Runs.{Run, IsFreshCluster}
use Rattle.cc_laws.specs.Regular.{IsStored, IsAhead, RoundsMeet}
use Rattle.cc_laws.specs.ReadBack.{IsDone}
use Rattle.cc_laws.specs.Fixed.{IsFixedMember, IsFixedCluster, Stays}
use Rattle.cc_laws.specs.DoubleCollects.{Moment, writes_of, LacksWrite, DoubleCollect}
use Rattle.cc_laws.specs.Snapshots.{HasShare, row_of_write, WriteBetween}
use Rattle.cc_laws.proofs.MapInsertions.{tables}
use Rattle.cc_laws.proofs.TwoNodes.{both}
use Rattle.cc_laws.proofs.Turns.{lived}
use Rattle.cc_laws.proofs.Stages.{two, Stage, own_1, own_2, hear_1, hear_2, both_hold, fresh_two}
use Rattle.cc_laws.proofs.TwoTurns.{Taken, asks, hears, events_by, sent_along, moves_along}
use Rattle.cc_laws.proofs.Regularity.{run_both}
use Rattle.cc_laws.proofs.Quorums.{rounds_meet}
use Rattle.cc_laws.proofs.CollectReadings.{members_within, member_done, flag_done}
use Rattle.cc_laws.proofs.Snapshots.{write_between}
use Rattle.cc_laws.proofs.WorkedRun as worked
use Rattle.cc_laws.proofs.SnapshotNodes as nodes
use Rattle.cc_laws.proofs.SnapshotNodes.{opening, early, late, added_by_1, acked_by_1, queried, replied, stored, acked}

-- ---- what both take

-- node 1 adds 3, and both acknowledge it; node 2 is asked to collect, both reply, both acknowledge what it stores back, and it is answered
abbrev part_1 : List Taken
part_1 =
    asks 1 7 1 (command.AddMember 3) (both 1 added_by_1)
    ∷ hears 2 1 1 added_by_1 (both 1 acked_by_1)
    ∷ hears 1 1 1 added_by_1 (both 2 acked_by_1)
    ∷ hears 1 1 2 acked_by_1 []
    ∷ hears 1 2 1 acked_by_1 (output.Reply 7 1 answer.Stored ∷ [])
    ∷ asks 2 9 1 command.Collect (both 2 (queried 1))
    ∷ hears 2 2 1 acked_by_1 []
    ∷ hears 2 2 2 (queried 1) (both 3 (replied early 1))
    ∷ hears 2 2 3 (replied early 1) []
    ∷ hears 1 2 2 (queried 1) (both 3 (replied early 1))
    ∷ hears 2 1 2 acked_by_1 []
    ∷ hears 2 1 3 (replied early 1) (both 4 (stored early 2))
    ∷ hears 1 2 3 (replied early 1) []
    ∷ hears 1 2 4 (stored early 2) (both 4 (acked 2))
    ∷ hears 2 2 4 (stored early 2) (both 5 (acked 2))
    ∷ hears 2 2 5 (acked 2) []
    ∷ hears 2 1 4 (acked 2) (output.Reply 9 1 (answer.Seen early) ∷ []) ∷ []

-- it is asked again
abbrev part_2 : List Taken
part_2 =
    asks 2 9 2 command.Collect (both 6 (queried 3))
    ∷ hears 1 2 5 (acked 2) []
    ∷ hears 1 2 6 (queried 3) (both 5 (replied early 3))
    ∷ hears 2 2 6 (queried 3) (both 7 (replied early 3))
    ∷ hears 2 2 7 (replied early 3) []
    ∷ hears 2 1 5 (replied early 3) (both 8 (stored early 4))
    ∷ hears 1 2 7 (replied early 3) []
    ∷ hears 1 2 8 (stored early 4) (both 6 (acked 4))
    ∷ hears 2 2 8 (stored early 4) (both 9 (acked 4))
    ∷ hears 2 2 9 (acked 4) []
    ∷ hears 2 1 6 (acked 4) (output.Reply 9 2 (answer.Seen early) ∷ []) ∷ []

-- another client has it set the flag, and a third one's ask waits; its collect begins when both have acknowledged the flag
abbrev part_3 : List Taken
part_3 =
    asks 2 8 1 command.SetFlag (both 10 (stored late 5))
    ∷ asks 2 10 1 command.Collect []
    ∷ hears 1 2 9 (acked 4) []
    ∷ hears 1 2 10 (stored late 5) (both 7 (acked 5))
    ∷ hears 2 2 10 (stored late 5) (both 11 (acked 5))
    ∷ hears 2 2 11 (acked 5) []
    ∷ hears 2 1 7 (acked 5) (both 12 (queried 6) ++ output.Reply 8 1 answer.Stored ∷ [])
    ∷ hears 1 2 11 (acked 5) []
    ∷ hears 1 2 12 (queried 6) (both 8 (replied late 6))
    ∷ hears 2 2 12 (queried 6) (both 13 (replied late 6))
    ∷ hears 2 2 13 (replied late 6) []
    ∷ hears 2 1 8 (replied late 6) (both 14 (stored late 7))
    ∷ hears 1 2 13 (replied late 6) []
    ∷ hears 1 2 14 (stored late 7) (both 9 (acked 7))
    ∷ hears 2 2 14 (stored late 7) (both 15 (acked 7))
    ∷ hears 2 2 15 (acked 7) []
    ∷ hears 2 1 9 (acked 7) (output.Reply 10 1 (answer.Seen late) ∷ []) ∷ []

-- and that client asks again
abbrev part_4 : List Taken
part_4 =
    asks 2 10 2 command.Collect (both 16 (queried 8))
    ∷ hears 1 2 15 (acked 7) []
    ∷ hears 1 2 16 (queried 8) (both 10 (replied late 8))
    ∷ hears 2 2 16 (queried 8) (both 17 (replied late 8))
    ∷ hears 2 2 17 (replied late 8) []
    ∷ hears 2 1 10 (replied late 8) (both 18 (stored late 9))
    ∷ hears 1 2 17 (replied late 8) []
    ∷ hears 1 2 18 (stored late 9) (both 11 (acked 9))
    ∷ hears 2 2 18 (stored late 9) (both 19 (acked 9))
    ∷ hears 2 2 19 (acked 9) []
    ∷ hears 2 1 11 (acked 9) (output.Reply 10 2 (answer.Seen late) ∷ []) ∷ []

-- the cluster once these were taken
abbrev at : List Taken → Cluster
at ts = two (opening 1) (opening 2) (events_by 1 ts) (events_by 2 ts) (sent_along ts)

abbrev so_far_2 : List Taken
so_far_2 = part_1 ++ part_2

abbrev so_far_3 : List Taken
so_far_3 = so_far_2 ++ part_3

abbrev all_parts : List Taken
all_parts = so_far_3 ++ part_4

abbrev pub start : Cluster
start = at []

abbrev pub end : Cluster
end = at all_parts

abbrev pub moves : List (ℕ × Move)
moves = moves_along 0 0 all_parts

-- ---- that it is a run

from_0 : Stage (opening 1) (opening 2) start [] (events_by 1 []) (events_by 2 []) nodes.first_0 nodes.second_0 (sent_along [])
from_0 = record { run = refl; first = nodes.begins_1; second = nodes.begins_2 }

pub to_1 : Stage (opening 1) (opening 2) start (moves_along 0 0 part_1) (events_by 1 part_1) (events_by 2 part_1) nodes.first_at_1 nodes.second_at_1 (sent_along part_1)
to_1 =
    let x1 = own_1 from_0 _ _ _ nodes.to_first_1 tt in
    let x2 = hear_2 x1 _ _ _ _ _ nodes.to_second_1 (1, omega arith, refl) in
    let x3 = hear_1 x2 _ _ _ _ _ nodes.to_first_2 (0, omega arith, refl) in
    let x4 = hear_1 x3 _ _ _ _ _ nodes.to_first_3 (6, omega arith, refl) in
    let x5 = hear_1 x4 _ _ _ _ _ nodes.to_first_4 (3, omega arith, refl) in
    let x6 = own_2 x5 _ _ _ nodes.to_second_2 tt in
    let x7 = hear_2 x6 _ _ _ _ _ nodes.to_second_3 (4, omega arith, refl) in
    let x8 = hear_2 x7 _ _ _ _ _ nodes.to_second_4 (12, omega arith, refl) in
    let x9 = hear_2 x8 _ _ _ _ _ nodes.to_second_5 (16, omega arith, refl) in
    let x10 = hear_1 x9 _ _ _ _ _ nodes.to_first_5 (11, omega arith, refl) in
    let x11 = hear_2 x10 _ _ _ _ _ nodes.to_second_6 (7, omega arith, refl) in
    let x12 = hear_2 x11 _ _ _ _ _ nodes.to_second_7 (20, omega arith, refl) in
    let x13 = hear_1 x12 _ _ _ _ _ nodes.to_first_6 (15, omega arith, refl) in
    let x14 = hear_1 x13 _ _ _ _ _ nodes.to_first_7 (23, omega arith, refl) in
    let x15 = hear_2 x14 _ _ _ _ _ nodes.to_second_8 (24, omega arith, refl) in
    let x16 = hear_2 x15 _ _ _ _ _ nodes.to_second_9 (31, omega arith, refl) in
    hear_2 x16 _ _ _ _ _ nodes.to_second_10 (28, omega arith, refl)

from_1 : Stage (opening 1) (opening 2) (at part_1) [] (events_by 1 part_1) (events_by 2 part_1) nodes.first_at_1 nodes.second_at_1 (sent_along part_1)
from_1 = record { run = refl; first = to_1.first; second = to_1.second }

pub to_2 : Stage (opening 1) (opening 2) (at part_1) (moves_along 7 10 part_2) (events_by 1 so_far_2) (events_by 2 so_far_2) nodes.first_at_2 nodes.second_at_2 (sent_along so_far_2)
to_2 =
    let x1 = own_2 from_1 _ _ _ nodes.to_second_11 tt in
    let x2 = hear_1 x1 _ _ _ _ _ nodes.to_first_8 (30, omega arith, refl) in
    let x3 = hear_1 x2 _ _ _ _ _ nodes.to_first_9 (35, omega arith, refl) in
    let x4 = hear_2 x3 _ _ _ _ _ nodes.to_second_12 (36, omega arith, refl) in
    let x5 = hear_2 x4 _ _ _ _ _ nodes.to_second_13 (43, omega arith, refl) in
    let x6 = hear_2 x5 _ _ _ _ _ nodes.to_second_14 (40, omega arith, refl) in
    let x7 = hear_1 x6 _ _ _ _ _ nodes.to_first_10 (42, omega arith, refl) in
    let x8 = hear_1 x7 _ _ _ _ _ nodes.to_first_11 (46, omega arith, refl) in
    let x9 = hear_2 x8 _ _ _ _ _ nodes.to_second_15 (47, omega arith, refl) in
    let x10 = hear_2 x9 _ _ _ _ _ nodes.to_second_16 (54, omega arith, refl) in
    hear_2 x10 _ _ _ _ _ nodes.to_second_17 (51, omega arith, refl)

from_2 : Stage (opening 1) (opening 2) (at so_far_2) [] (events_by 1 so_far_2) (events_by 2 so_far_2) nodes.first_at_2 nodes.second_at_2 (sent_along so_far_2)
from_2 = record { run = refl; first = to_2.first; second = to_2.second }

pub to_3 : Stage (opening 1) (opening 2) (at so_far_2) (moves_along 11 17 part_3) (events_by 1 so_far_3) (events_by 2 so_far_3) nodes.first_at_3 nodes.second_at_3 (sent_along so_far_3)
to_3 =
    let x1 = own_2 from_2 _ _ _ nodes.to_second_18 tt in
    let x2 = own_2 x1 _ _ _ nodes.to_second_19 tt in
    let x3 = hear_1 x2 _ _ _ _ _ nodes.to_first_12 (53, omega arith, refl) in
    let x4 = hear_1 x3 _ _ _ _ _ nodes.to_first_13 (58, omega arith, refl) in
    let x5 = hear_2 x4 _ _ _ _ _ nodes.to_second_20 (59, omega arith, refl) in
    let x6 = hear_2 x5 _ _ _ _ _ nodes.to_second_21 (66, omega arith, refl) in
    let x7 = hear_2 x6 _ _ _ _ _ nodes.to_second_22 (63, omega arith, refl) in
    let x8 = hear_1 x7 _ _ _ _ _ nodes.to_first_14 (65, omega arith, refl) in
    let x9 = hear_1 x8 _ _ _ _ _ nodes.to_first_15 (69, omega arith, refl) in
    let x10 = hear_2 x9 _ _ _ _ _ nodes.to_second_23 (70, omega arith, refl) in
    let x11 = hear_2 x10 _ _ _ _ _ nodes.to_second_24 (78, omega arith, refl) in
    let x12 = hear_2 x11 _ _ _ _ _ nodes.to_second_25 (75, omega arith, refl) in
    let x13 = hear_1 x12 _ _ _ _ _ nodes.to_first_16 (77, omega arith, refl) in
    let x14 = hear_1 x13 _ _ _ _ _ nodes.to_first_17 (81, omega arith, refl) in
    let x15 = hear_2 x14 _ _ _ _ _ nodes.to_second_26 (82, omega arith, refl) in
    let x16 = hear_2 x15 _ _ _ _ _ nodes.to_second_27 (89, omega arith, refl) in
    hear_2 x16 _ _ _ _ _ nodes.to_second_28 (86, omega arith, refl)

from_3 : Stage (opening 1) (opening 2) (at so_far_3) [] (events_by 1 so_far_3) (events_by 2 so_far_3) nodes.first_at_3 nodes.second_at_3 (sent_along so_far_3)
from_3 = record { run = refl; first = to_3.first; second = to_3.second }

pub to_4 : Stage (opening 1) (opening 2) (at so_far_3) (moves_along 17 28 part_4) (events_by 1 all_parts) (events_by 2 all_parts) nodes.first_at_4 nodes.second_at_4 (sent_along all_parts)
to_4 =
    let x1 = own_2 from_3 _ _ _ nodes.to_second_29 tt in
    let x2 = hear_1 x1 _ _ _ _ _ nodes.to_first_18 (88, omega arith, refl) in
    let x3 = hear_1 x2 _ _ _ _ _ nodes.to_first_19 (93, omega arith, refl) in
    let x4 = hear_2 x3 _ _ _ _ _ nodes.to_second_30 (94, omega arith, refl) in
    let x5 = hear_2 x4 _ _ _ _ _ nodes.to_second_31 (101, omega arith, refl) in
    let x6 = hear_2 x5 _ _ _ _ _ nodes.to_second_32 (98, omega arith, refl) in
    let x7 = hear_1 x6 _ _ _ _ _ nodes.to_first_20 (100, omega arith, refl) in
    let x8 = hear_1 x7 _ _ _ _ _ nodes.to_first_21 (104, omega arith, refl) in
    let x9 = hear_2 x8 _ _ _ _ _ nodes.to_second_33 (105, omega arith, refl) in
    let x10 = hear_2 x9 _ _ _ _ _ nodes.to_second_34 (112, omega arith, refl) in
    hear_2 x10 _ _ _ _ _ nodes.to_second_35 (109, omega arith, refl)

-- ---- the premises

opens : (me : ℕ) → 1 ≤ me → Contains (1 ∷ 2 ∷ []) me → set.len (set.from_list (me ∷ 1 ∷ 2 ∷ [])) ≤ 256 → IsOpening (opening me)
opens me some among few =
    let o = worked.opens me some among few in
    record {
      no_zero = o.no_zero;
      initial_ascends = o.initial_ascends;
      contacts_ascend = o.contacts_ascend;
      own_initial = o.own_initial;
      no_own_contact = o.no_own_contact;
      few = o.few;
      beta = o.beta;
      gamma = o.gamma;
      some = omega arith;
      most = omega arith;
    }

pub is_fresh : IsFreshCluster start
is_fresh =
    fresh_two (opening 1) (opening 2) refl refl (opens 1 (omega arith) (0, omega arith, refl) (simp tables (omega arith)))
    (opens 2 (omega arith) (1, omega arith, refl) (simp tables (omega arith)))

pub is_fixed : IsFixedCluster (1 ∷ 2 ∷ []) start
is_fixed =
    both_hold (opening 1) (opening 2) (IsFixedMember (1 ∷ 2 ∷ []))
    (record { initial = refl; among = simp tables refl; majority = simp tables (omega arith) })
    (record { initial = refl; among = simp tables refl; majority = simp tables (omega arith) })

pub has_share : HasShare 1 start
has_share = both_hold (opening 1) (opening 2) (λ q m. m.opening.share ≡ 1) refl refl

pub is_run : Run start moves end
is_run =
    run_both start (moves_along 0 0 part_1) (at part_1) (moves_along 7 10 part_2 ++ moves_along 11 17 part_3 ++ moves_along 17 28 part_4) end to_1.run
    (run_both (at part_1) (moves_along 7 10 part_2) (at so_far_2) (moves_along 11 17 part_3 ++ moves_along 17 28 part_4) end to_2.run
    (run_both (at so_far_2) (moves_along 11 17 part_3) (at so_far_3) (moves_along 17 28 part_4) end to_3.run to_4.run))

pub all_stay : AllByRecursion (λ (move : ℕ × Move). Stays move.1) moves
all_stay = worked.all_stay moves refl

pub meet : RoundsMeet end
meet = rounds_meet (1 ∷ 2 ∷ []) start end moves is_fresh is_fixed all_stay is_run

-- ---- its moments, and the double collects

pub to_2_run : Run start (moves_along 0 0 so_far_2) (at so_far_2)
to_2_run = run_both start (moves_along 0 0 part_1) (at part_1) (moves_along 7 10 part_2) (at so_far_2) to_1.run to_2.run

pub to_3_run : Run start (moves_along 0 0 so_far_3) (at so_far_3)
to_3_run = run_both start (moves_along 0 0 so_far_2) (at so_far_2) (moves_along 11 17 part_3) (at so_far_3) to_2_run to_3.run

abbrev after_1 : Moment start moves
after_1 = record { made = 51; now = at part_1; run = to_1.run }

abbrev after_2 : Moment start moves
after_2 = record { made = 84; now = at so_far_2; run = to_2_run }

abbrev after_3 : Moment start moves
after_3 = record { made = 135; now = at so_far_3; run = to_3_run }

-- node 2 hasn't released the second collect of session 9, nor one of session 10, nor the second one of that
pub ahead_1 : IsAhead (at part_1) 2 9 2
ahead_1 = (
  lived (opening 2) (events_by 2 part_1),
  simp tables refl,
  subst (λ (n : Node). last_request n.core.sessions 9 < 2) (sym to_1.second) (simp tables (omega arith)),
)

ahead_2 : IsAhead (at so_far_2) 2 10 1
ahead_2 = (
  lived (opening 2) (events_by 2 so_far_2),
  simp tables refl,
  subst (λ (n : Node). last_request n.core.sessions 10 < 1) (sym to_2.second) (simp tables (omega arith)),
)

pub ahead_3 : IsAhead (at so_far_3) 2 10 2
ahead_3 = (
  lived (opening 2) (events_by 2 so_far_3),
  simp tables refl,
  subst (λ (n : Node). last_request n.core.sessions 10 < 2) (sym to_3.second) (simp tables (omega arith)),
)

abbrev pub by_9 : DoubleCollect start moves end
by_9 = record {
  node = 2;
  s = 9;
  r = 1;
  x = 9;
  y = 2;
  view = early;
  moment = after_1;
  first = (34, omega arith, refl);
  apart = ahead_1;
  second = (57, omega arith, refl);
}

abbrev pub by_10 : DoubleCollect start moves end
by_10 = record {
  node = 2;
  s = 10;
  r = 1;
  x = 10;
  y = 2;
  view = late;
  moment = after_3;
  first = (92, omega arith, refl);
  apart = ahead_3;
  second = (115, omega arith, refl);
}

-- ---- what they show

pub is_added : IsDone (at part_1) 1 7 1 (command.AddMember 3)
is_added = (lived (opening 1) (events_by 1 part_1), simp tables refl, (0, omega arith, refl), (10, omega arith, refl))

pub is_set : IsDone (at so_far_3) 2 8 1 command.SetFlag
is_set = (lived (opening 2) (events_by 2 so_far_3), simp tables refl, (17, omega arith, refl), (71, omega arith, refl))

is_stored : IsStored (at so_far_3) 2 1 8 1
is_stored = (
  lived (opening 2) (events_by 2 so_far_3),
  simp tables refl,
  record {
    before = events_by 2 so_far_2;
    command = command.SetFlag;
    later = drop 18 (events_by 2 so_far_3);
    parts = refl;
    writes = refl;
    number = refl;
  },
  (71, omega arith, refl),
)

lacks_write : LacksWrite (at part_1) 2 1
lacks_write =
    let there : table.get (at part_1).members 2 ≡ Some (lived (opening 2) (events_by 2 part_1)) = simp tables refl in
    subst (λ (o : Option Member). IsSomeAnd o (λ m. writes_of m < 1)) (sym there) (omega arith)

pub set_between : WriteBetween start moves end by_9 by_10 2 1 8 1
set_between =
    write_between start end moves is_fresh is_run meet by_9 by_10 after_2 2 1 8 1 (omega arith) lacks_write is_stored (57, omega arith, refl) ahead_2

pub early_rows : rows_of early ≡ row_of_write 1 (command.AddMember 3) ∷ []
early_rows = simp tables refl

pub late_rows : rows_of late ≡ row_of_write 1 (command.AddMember 3) ∷ row_of_write 2 command.SetFlag ∷ []
late_rows = simp tables refl

pub early_member : set.contains (set_of early) 3 ≡ true
early_member = member_done start end moves is_fresh is_run meet by_9 after_1 1 7 1 3 is_added ahead_1

pub late_member : set.contains (set_of late) 3 ≡ true
late_member = members_within start end moves is_fresh is_run by_9 by_10 set_between.within 3 early_member

pub early_flag : flag_of early ≡ false
early_flag = simp tables refl

pub late_flag : flag_of late ≡ true
late_flag = flag_done start end moves is_fresh is_run meet by_10 after_3 2 8 1 is_set ahead_3
