-- The cluster of EntrantRun goes on: node 2 collects again, writes a maximum, and collects twice for two sessions in one round each.
--     part_1                    up to the answer of the second collect of session 9
--     part_2                    up to those of the first round of both sessions
--     part_3, part_4            up to the last reply to what the second one queries, and to its answers
--     to_1, .., to_4, is_run    the run, part by part and as one
--     first_9, by_9, by_10      the double collects: two of session 9, and one of session 10
use Rattle.std.proofs.Common.{◌≡◌, ℕ, ◌<◌, ◌≤◌, true, List, [], ◌∷◌, ◌++◌, take, drop, refl, subst, sym, arith}
use Rattle.std.specs.Prelude.{Option, Some, IsSomeAnd}
use Rattle.std.specs.List.{list_all}
use Rattle.std.specs.FinMap as table
use Rattle.cc_views.specs.Rows.{rows_of}
use Rattle.cc_messages.specs.declared.answer.Answer.TheVariants as answer
use Rattle.cc_messages.specs.declared.command.Command.TheVariants as command
use Rattle.cc_messages.specs.declared.event.Event.{Event}
use Rattle.cc_messages.specs.declared.event.Event.TheVariants as event
use Rattle.cc_messages.specs.declared.output.Output.TheVariants as output
use Rattle.cc_objects.specs.Objects.{max_of}
use Rattle.cc_sessions.specs.Sessions.{last_request}
use Rattle.cc_ops.specs.Ops.{pending}
use Rattle.cc_node.specs.Node.{Node}
use Rattle.cc_laws.specs.Clusters.{Member, Cluster, Sent, Move}
use Rattle.cc_laws.specs.Runs.{Run}
use Rattle.cc_laws.specs.Rounds.{awaits_views, ends_round}
use Rattle.cc_laws.specs.Regular.{released_events, IsStored, IsAhead, RoundOf, HasAsked, RoundsMeet}
use Rattle.cc_laws.specs.ReadBack.{IsDone}
use Rattle.cc_laws.specs.DoubleCollects.{Moment, writes_of, LacksWrite, DoubleCollect}
use Rattle.cc_laws.specs.Snapshots.{HasShare, AreOfOneRound, row_of_write, WriteBetween}
use Rattle.cc_laws.proofs.MapInsertions.{tables}
use Rattle.cc_laws.proofs.TwoNodes.{both, view}
use Rattle.cc_laws.proofs.Turns.{lived}
use Rattle.cc_laws.proofs.Stages.{two, Stage, own_2, hear_1, hear_2, both_hold, each_holds}
use Rattle.cc_laws.proofs.TwoTurns.{Taken, asks, hears, events_by, sent_along, moves_along}
use Rattle.cc_laws.proofs.Regularity.{run_both}
use Rattle.cc_laws.proofs.Hubs.{is_by, hub_counted}
use Rattle.cc_laws.proofs.CollectReadings.{max_done}
use Rattle.cc_laws.proofs.Snapshots.{write_between}
use Rattle.cc_laws.proofs.EntrantNodes.{first_opening, entrant, c7, d6}
use Rattle.cc_laws.proofs.EntrantRun as entered
use Rattle.cc_laws.proofs.EntrantRun.{start, is_fresh}
use Rattle.cc_laws.proofs.SnapshotNodes.{queried, replied, stored, acked}
use Rattle.cc_laws.proofs.SharingNodes as nodes
use Rattle.cc_laws.proofs.SharingNodes.{late, sends, asked}

-- ---- what both take

-- session 9 asks again, and the ask of session 8 waits; node 1 replies and acknowledges, and what session 8 writes is stored
abbrev part_1 : List Taken
part_1 =
    asks 2 9 2 command.Collect (both 5 (queried 3))
    ∷ asks 2 8 1 (command.WriteMax 5) []
    ∷ hears 1 2 5 (queried 3) (sends 5 (replied view 3))
    ∷ hears 2 1 5 (replied view 3) (both 6 (stored view 4))
    ∷ hears 1 2 6 (stored view 4) (sends 6 (acked 4))
    ∷ hears 2 1 6 (acked 4) (both 7 (stored late 5) ++ output.Reply 9 2 (answer.Seen view) ∷ []) ∷ []

-- two sessions wait until node 1 has acknowledged it, and collect in one round; session 8 asks meanwhile
abbrev part_2 : List Taken
part_2 =
    asks 2 9 3 command.Collect []
    ∷ asks 2 10 1 command.Collect []
    ∷ hears 1 2 7 (stored late 5) (sends 7 (acked 5))
    ∷ hears 2 1 7 (acked 5) (both 8 (queried 6) ++ output.Reply 8 1 answer.Stored ∷ [])
    ∷ asks 2 8 2 command.Collect []
    ∷ hears 1 2 8 (queried 6) (sends 8 (replied late 6))
    ∷ hears 2 1 8 (replied late 6) (both 9 (stored late 7))
    ∷ hears 1 2 9 (stored late 7) (sends 9 (acked 7))
    ∷ hears 2 1 9 (acked 7) (both 10 (queried 8) ++ output.Reply 9 3 (answer.Seen late) ∷ output.Reply 10 1 (answer.Seen late) ∷ []) ∷ []

-- both ask again; the collect of session 8 is answered, and theirs begins as one
abbrev part_3 : List Taken
part_3 =
    asks 2 9 4 command.Collect []
    ∷ asks 2 10 2 command.Collect []
    ∷ hears 1 2 10 (queried 8) (sends 10 (replied late 8))
    ∷ hears 2 1 10 (replied late 8) (both 11 (stored late 9))
    ∷ hears 1 2 11 (stored late 9) (sends 11 (acked 9))
    ∷ hears 2 1 11 (acked 9) (both 12 (queried 10) ++ output.Reply 8 2 (answer.Seen late) ∷ [])
    ∷ hears 1 2 12 (queried 10) (sends 12 (replied late 10)) ∷ []

-- it is answered
abbrev part_4 : List Taken
part_4 =
    hears 2 1 12 (replied late 10) (both 13 (stored late 11))
    ∷ hears 1 2 13 (stored late 11) (sends 13 (acked 11))
    ∷ hears 2 1 13 (acked 11) (output.Reply 9 4 (answer.Seen late) ∷ output.Reply 10 2 (answer.Seen late) ∷ []) ∷ []

abbrev so_far_2 : List Taken
so_far_2 = part_1 ++ part_2

abbrev so_far_3 : List Taken
so_far_3 = so_far_2 ++ part_3

abbrev all_parts : List Taken
all_parts = so_far_3 ++ part_4

abbrev first_by : List Taken → List Event
first_by ts = entered.es_end ++ events_by 1 ts

abbrev second_by : List Taken → List Event
second_by ts = entered.fs_end ++ events_by 2 ts

abbrev sent_by : List Taken → List Sent
sent_by ts = entered.sent_end ++ sent_along ts

-- the cluster once these were taken
abbrev at : List Taken → Cluster
at ts = two first_opening entrant (first_by ts) (second_by ts) (sent_by ts)

abbrev pub end : Cluster
end = at all_parts

abbrev moves_0 : List (ℕ × Move)
moves_0 = entered.first_moves ++ entered.second_moves

abbrev moves_1 : List (ℕ × Move)
moves_1 = moves_along 7 6 part_1

abbrev moves_2 : List (ℕ × Move)
moves_2 = moves_along 9 10 part_2

abbrev moves_3 : List (ℕ × Move)
moves_3 = moves_along 12 16 part_3

abbrev moves_4 : List (ℕ × Move)
moves_4 = moves_along 15 20 part_4

abbrev pub moves : List (ℕ × Move)
moves = moves_0 ++ moves_1 ++ moves_2 ++ moves_3 ++ moves_4

-- ---- that it is a run

from_0 : Stage first_opening entrant entered.end [] (first_by []) (second_by []) c7 d6 (sent_by [])
from_0 = record { run = refl; first = entered.to_end.first; second = entered.to_end.second }

pub to_1 : Stage first_opening entrant entered.end moves_1 (first_by part_1) (second_by part_1) nodes.first_at_1 nodes.second_at_1 (sent_by part_1)
to_1 =
    let x1 = own_2 from_0 _ _ _ nodes.to_second_1 tt in
    let x2 = own_2 x1 _ _ _ nodes.to_second_2 tt in
    let x3 = hear_1 x2 _ _ _ _ _ nodes.to_first_1 (30, omega arith, refl) in
    let x4 = hear_2 x3 _ _ _ _ _ nodes.to_second_3 (34, omega arith, refl) in
    let x5 = hear_1 x4 _ _ _ _ _ nodes.to_first_2 (36, omega arith, refl) in
    hear_2 x5 _ _ _ _ _ nodes.to_second_4 (40, omega arith, refl)

from_1 : Stage first_opening entrant (at part_1) [] (first_by part_1) (second_by part_1) nodes.first_at_1 nodes.second_at_1 (sent_by part_1)
from_1 = record { run = refl; first = to_1.first; second = to_1.second }

pub to_2 : Stage first_opening entrant (at part_1) moves_2 (first_by so_far_2) (second_by so_far_2) nodes.first_at_2 nodes.second_at_2 (sent_by so_far_2)
to_2 =
    let x1 = own_2 from_1 _ _ _ nodes.to_second_5 tt in
    let x2 = own_2 x1 _ _ _ nodes.to_second_6 tt in
    let x3 = hear_1 x2 _ _ _ _ _ nodes.to_first_3 (42, omega arith, refl) in
    let x4 = hear_2 x3 _ _ _ _ _ nodes.to_second_7 (47, omega arith, refl) in
    let x5 = own_2 x4 _ _ _ nodes.to_second_8 tt in
    let x6 = hear_1 x5 _ _ _ _ _ nodes.to_first_4 (49, omega arith, refl) in
    let x7 = hear_2 x6 _ _ _ _ _ nodes.to_second_9 (54, omega arith, refl) in
    let x8 = hear_1 x7 _ _ _ _ _ nodes.to_first_5 (56, omega arith, refl) in
    hear_2 x8 _ _ _ _ _ nodes.to_second_10 (60, omega arith, refl)

from_2 : Stage first_opening entrant (at so_far_2) [] (first_by so_far_2) (second_by so_far_2) nodes.first_at_2 nodes.second_at_2 (sent_by so_far_2)
from_2 = record { run = refl; first = to_2.first; second = to_2.second }

pub to_3 : Stage first_opening entrant (at so_far_2) moves_3 (first_by so_far_3) (second_by so_far_3) nodes.first_at_3 nodes.second_at_3 (sent_by so_far_3)
to_3 =
    let x1 = own_2 from_2 _ _ _ nodes.to_second_11 tt in
    let x2 = own_2 x1 _ _ _ nodes.to_second_12 tt in
    let x3 = hear_1 x2 _ _ _ _ _ nodes.to_first_6 (62, omega arith, refl) in
    let x4 = hear_2 x3 _ _ _ _ _ nodes.to_second_13 (68, omega arith, refl) in
    let x5 = hear_1 x4 _ _ _ _ _ nodes.to_first_7 (70, omega arith, refl) in
    let x6 = hear_2 x5 _ _ _ _ _ nodes.to_second_14 (74, omega arith, refl) in
    hear_1 x6 _ _ _ _ _ nodes.to_first_8 (76, omega arith, refl)

from_3 : Stage first_opening entrant (at so_far_3) [] (first_by so_far_3) (second_by so_far_3) nodes.first_at_3 nodes.second_at_3 (sent_by so_far_3)
from_3 = record { run = refl; first = to_3.first; second = to_3.second }

pub to_4 : Stage first_opening entrant (at so_far_3) moves_4 (first_by all_parts) (second_by all_parts) nodes.first_at_4 nodes.second_at_4 (sent_by all_parts)
to_4 =
    let x1 = hear_2 from_3 _ _ _ _ _ nodes.to_second_15 (81, omega arith, refl) in
    let x2 = hear_1 x1 _ _ _ _ _ nodes.to_first_9 (83, omega arith, refl) in
    hear_2 x2 _ _ _ _ _ nodes.to_second_16 (87, omega arith, refl)

pub to_entered : Run start moves_0 entered.end
to_entered = run_both start entered.first_moves entered.mid entered.second_moves entered.end entered.to_mid.run entered.to_end.run

pub to_1_run : Run start (moves_0 ++ moves_1) (at part_1)
to_1_run = run_both start moves_0 entered.end moves_1 (at part_1) to_entered to_1.run

pub to_2_run : Run start (moves_0 ++ moves_1 ++ moves_2) (at so_far_2)
to_2_run =
    run_both start moves_0 entered.end (moves_1 ++ moves_2) (at so_far_2) to_entered (run_both entered.end moves_1 (at part_1) moves_2 (at so_far_2) to_1.run to_2.run)

pub is_run : Run start moves end
is_run =
    run_both start moves_0 entered.end (moves_1 ++ moves_2 ++ moves_3 ++ moves_4) end to_entered
    (run_both entered.end moves_1 (at part_1) (moves_2 ++ moves_3 ++ moves_4) end to_1.run
    (run_both (at part_1) moves_2 (at so_far_2) (moves_3 ++ moves_4) end to_2.run (run_both (at so_far_2) moves_3 (at so_far_3) moves_4 end to_3.run to_4.run)))

-- ---- the premises: node 1 was counted by each round

pub has_share : HasShare 32 start
has_share = both_hold first_opening entrant (λ q m. m.opening.share ≡ 32) refl refl

answered_by_1 : (q : ℕ) (m : Member) → table.get end.members q ≡ Some m → list_all (is_by 1) (released_events m) ≡ true
answered_by_1 =
    each_holds first_opening entrant (first_by all_parts) (second_by all_parts) (sent_by all_parts) (λ q m. list_all (is_by 1) (released_events m) ≡ true) refl refl

pub meet : RoundsMeet end
meet p q m n at at' first second = (1, hub_counted 1 m (answered_by_1 p m at) first, hub_counted 1 n (answered_by_1 q n at') second)

-- ---- its moments, and the double collects

abbrev entered_by_then : Moment start moves
entered_by_then = record { made = 39; now = entered.end; run = to_entered }

abbrev after_1 : Moment start moves
after_1 = record { made = 57; now = at part_1; run = to_1_run }

abbrev after_2 : Moment start moves
after_2 = record { made = 84; now = at so_far_2; run = to_2_run }

pub ahead_0 : IsAhead entered.end 2 9 2
ahead_0 = (
  lived entrant entered.fs_end,
  simp tables refl,
  subst (λ (n : Node). last_request n.core.sessions 9 < 2) (sym entered.to_end.second) (simp tables (omega arith)),
)

ahead_of_9 : IsAhead (at part_1) 2 9 3
ahead_of_9 = (
  lived entrant (second_by part_1),
  simp tables refl,
  subst (λ (n : Node). last_request n.core.sessions 9 < 3) (sym to_1.second) (simp tables (omega arith)),
)

ahead_of_10 : IsAhead (at part_1) 2 10 1
ahead_of_10 = (
  lived entrant (second_by part_1),
  simp tables refl,
  subst (λ (n : Node). last_request n.core.sessions 10 < 1) (sym to_1.second) (simp tables (omega arith)),
)

pub apart_9 : IsAhead (at so_far_2) 2 9 4
apart_9 = (
  lived entrant (second_by so_far_2),
  simp tables refl,
  subst (λ (n : Node). last_request n.core.sessions 9 < 4) (sym to_2.second) (simp tables (omega arith)),
)

pub apart_10 : IsAhead (at so_far_2) 2 10 2
apart_10 = (
  lived entrant (second_by so_far_2),
  simp tables refl,
  subst (λ (n : Node). last_request n.core.sessions 10 < 2) (sym to_2.second) (simp tables (omega arith)),
)

abbrev pub first_9 : DoubleCollect start moves end
first_9 = record {
  node = 2;
  s = 9;
  r = 1;
  x = 9;
  y = 2;
  view = view;
  moment = entered_by_then;
  first = entered.is_answered;
  apart = ahead_0;
  second = (44, omega arith, refl);
}

abbrev pub by_9 : DoubleCollect start moves end
by_9 = record {
  node = 2;
  s = 9;
  r = 3;
  x = 9;
  y = 4;
  view = late;
  moment = after_2;
  first = (64, omega arith, refl);
  apart = apart_9;
  second = (89, omega arith, refl);
}

abbrev pub by_10 : DoubleCollect start moves end
by_10 = record {
  node = 2;
  s = 10;
  r = 1;
  x = 10;
  y = 2;
  view = late;
  moment = after_2;
  first = (65, omega arith, refl);
  apart = apart_10;
  second = (90, omega arith, refl);
}

query_round : RoundOf (lived entrant (second_by all_parts))
query_round = record {
  before = second_by so_far_3;
  last = event.Deliver 1 12 (replied late 10);
  later = event.Deliver 1 13 (acked 11) ∷ [];
  parts = refl;
  ends = subst (λ (n : Node). ends_round n.core (event.Deliver 1 12 (replied late 10)) ≡ true) (sym to_3.second) refl;
}

pub one_round : AreOfOneRound end 2 9 4 10 2
unfolding query_round
one_round = (
  lived entrant (second_by all_parts),
  simp tables refl,
  query_round,
  subst (λ (n : Node). awaits_views n.core.ops.phase ≡ true) (sym to_3.second) refl,
  subst (λ (n : Node). HasAsked (pending n.core.ops) 9 4) (sym to_3.second) (asked 9 4, (0, omega arith, refl), refl, refl),
  subst (λ (n : Node). HasAsked (pending n.core.ops) 10 2) (sym to_3.second) (asked 10 2, (1, omega arith, refl), refl, refl),
)

-- ---- what they show

pub is_written : IsDone (at so_far_2) 2 8 1 (command.WriteMax 5)
is_written = (lived entrant (second_by so_far_2), simp tables refl, (7, omega arith, refl), (51, omega arith, refl))

is_stored : IsStored (at so_far_2) 2 1 8 1
is_stored = (
  lived entrant (second_by so_far_2),
  simp tables refl,
  record {
    before = take 7 (second_by so_far_2);
    command = command.WriteMax 5;
    later = drop 8 (second_by so_far_2);
    parts = refl;
    writes = refl;
    number = refl;
  },
  (51, omega arith, refl),
)

lacks_write : LacksWrite entered.end 2 1
lacks_write =
    let there : table.get entered.end.members 2 ≡ Some (lived entrant entered.fs_end) = simp tables refl in
    subst (λ (o : Option Member). IsSomeAnd o (λ m. writes_of m < 1)) (sym there) (omega arith)

pub before_9 : WriteBetween start moves end first_9 by_9 2 1 8 1
before_9 =
    write_between start end moves is_fresh is_run meet first_9 by_9 after_1 2 1 8 1 (omega arith) lacks_write is_stored (44, omega arith, refl) ahead_of_9

pub before_10 : WriteBetween start moves end first_9 by_10 2 1 8 1
before_10 =
    write_between start end moves is_fresh is_run meet first_9 by_10 after_1 2 1 8 1 (omega arith) lacks_write is_stored (44, omega arith, refl) ahead_of_10

pub first_rows : rows_of view ≡ row_of_write 1 (command.Store (0x61 ∷ [])) ∷ []
first_rows = simp tables refl

pub late_rows : rows_of late ≡ row_of_write 1 (command.Store (0x61 ∷ [])) ∷ row_of_write 2 (command.WriteMax 5) ∷ []
late_rows = simp tables refl

pub first_max : max_of view ≡ 0
first_max = simp tables refl

pub late_max : 5 ≤ max_of late
late_max = max_done start end moves is_fresh is_run meet by_9 after_2 2 8 1 5 is_written apart_9
