-- Runs of a cluster of two nodes, move after move, and how far they have come.
--     two o p es fs sent      node 1 began as o and took es, node 2 as p and fs; all of it is durable and was put out
--     Stage                   how far these moves have come
--     own_1, hear_1, ..       node 1 takes an event of its own, or hears what was sent;  lose_2: and a crash takes it back
--     Opens, fresh_two        how both begin
use Rattle.std.proofs.Common.{◌≡◌, ◌⊎◌, inl, inr, ℕ, ◌<◌, Bool, true, false, cond, nat_eq, List, [], ◌∷◌, ◌++◌, length, refl, subst, sym, arith}
use Rattle.std.specs.Prelude.{Some, None}
use Rattle.std.specs.List.{Contains, AllByRecursion}
use Rattle.std.specs.FinMap as table
use Rattle.std.proofs.lemmas.Bool.{eqb-true}
use Rattle.std.proofs.lemmas.Option.{same_Some, none-some}
use Rattle.cc_messages.specs.declared.event.Event.{Event}
use Rattle.cc_messages.specs.declared.event.Event.TheVariants as event
use Rattle.cc_messages.specs.declared.message.Message.{Message}
use Rattle.cc_messages.specs.declared.output.Output.{Output}
use Rattle.cc_messages.specs.declared.output.Output.TheVariants as output
use Rattle.cc_node.specs.Node.{Node, after}
use Rattle.cc_node.specs.Openings.{Opening, IsOpening, fresh}
use Rattle.cc_node.specs.Refusals.{decides}
use Rattle.cc_laws.specs.Clusters.{Member, Cluster, Sent, IsOwn, Move, Accept, Receive, MovesBy, with_member, accepting}
use Rattle.cc_laws.specs.Runs.{Run, IsFreshMember, IsFreshCluster}
use Rattle.cc_laws.proofs.MapInsertions.{tables}
use Rattle.cc_laws.proofs.Regularity.{run_both}
use Rattle.cc_laws.proofs.TwoNodes.{Takes}
use Rattle.cc_laws.proofs.Turns.{lived, sent_by, Seat, turn, reached, turned, lost, forgotten}
use Rattle.cc_laws.proofs.ClusterSteps.{IsAt}

abbrev pub two : Opening → Opening → List Event → List Event → List Sent → Cluster
two o p es fs sent = record {
  members = table.insert (table.insert table.empty 2 (lived p fs)) 1 (lived o es);
  sent = sent;
}

abbrev put_first : Member → Member → List Sent → Cluster
put_first second first sent = record { members = table.insert (table.insert table.empty 2 second) 1 first; sent = sent }

abbrev put_second : Member → Member → List Sent → Cluster
put_second first second sent = put_first second first sent

seat_1 : (second : Member) → Seat 1 (put_first second)
seat_1 second = record { there = λ m s. simp tables refl; again = λ m n s. simp tables refl; more = λ m s os. refl }

seat_2 : (first : Member) → Seat 2 (put_second first)
seat_2 first = record { there = λ m s. simp tables refl; again = λ m n s. simp tables refl; more = λ m s os. refl }

pub record Stage (o p : Opening) (from : Cluster) (moves : List (ℕ × Move)) (es fs : List Event) (n m : Node) (sent : List Sent) : Type 0 where
  pub run : Run from moves (two o p es fs sent)
  pub first : after (fresh o) es ≡ n
  pub second : after (fresh p) fs ≡ m

-- a move by which this node may take the event then
abbrev MayTake : Cluster → ℕ → Member → Event → Move → Type 0
MayTake c q m e move = (d : Cluster) → decides (after (fresh m.opening) m.events).core e ≡ None → d ≡ with_member q (accepting e m) c → MovesBy c q m move d

own : (c : Cluster) (q : ℕ) (m : Member) (e : Event) → IsOwn e → MayTake c q m e (Accept e)
own c q m e is d taken made = (is, taken, made)

heard : (c : Cluster) (q : ℕ) (m : Member) (from n : ℕ) (k : Message) → Contains c.sent (record { from = from; output = output.Send q n k })
    → MayTake c q m (event.Deliver from n k) (Receive from n k)
heard c q m from n k has d taken made = (has, taken, made)

-- ---- one move more

module _ {o p : Opening} {from : Cluster} {ms : List (ℕ × Move)} {es fs : List Event} {n m : Node} {s : List Sent} (stage : Stage o p from ms es fs n m s) where
  turn_1 : (e : Event) (move : Move) (k : Node) (os : List Output) → Takes n e k os → MayTake (two o p es fs s) 1 (lived o es) e move
      → Stage o p from (ms ++ turn 1 move (length es)) (es ++ e ∷ []) fs k m (s ++ sent_by 1 os)
  turn_1 e move k os takes may = record {
    run = run_both from ms (two o p es fs s) (turn 1 move (length es)) _ stage.run
        (turned 1 (put_first (lived p fs)) (seat_1 (lived p fs)) o es e move s n k os stage.first takes (may _));
    first = reached 1 (put_first (lived p fs)) (seat_1 (lived p fs)) o es e move s n k os stage.first takes;
    second = stage.second;
  }

  turn_2 : (e : Event) (move : Move) (k : Node) (os : List Output) → Takes m e k os → MayTake (two o p es fs s) 2 (lived p fs) e move
      → Stage o p from (ms ++ turn 2 move (length fs)) es (fs ++ e ∷ []) n k (s ++ sent_by 2 os)
  turn_2 e move k os takes may = record {
    run = run_both from ms (two o p es fs s) (turn 2 move (length fs)) _ stage.run
        (turned 2 (put_second (lived o es)) (seat_2 (lived o es)) p fs e move s m k os stage.second takes (may _));
    first = stage.first;
    second = reached 2 (put_second (lived o es)) (seat_2 (lived o es)) p fs e move s m k os stage.second takes;
  }

  pub own_1 : (e : Event) (k : Node) (os : List Output) → Takes n e k os → IsOwn e
      → Stage o p from (ms ++ turn 1 (Accept e) (length es)) (es ++ e ∷ []) fs k m (s ++ sent_by 1 os)
  own_1 e k os takes is = turn_1 e (Accept e) k os takes (own (two o p es fs s) 1 (lived o es) e is)

  pub own_2 : (e : Event) (k : Node) (os : List Output) → Takes m e k os → IsOwn e
      → Stage o p from (ms ++ turn 2 (Accept e) (length fs)) es (fs ++ e ∷ []) n k (s ++ sent_by 2 os)
  own_2 e k os takes is = turn_2 e (Accept e) k os takes (own (two o p es fs s) 2 (lived p fs) e is)

  pub hear_1 : (q i : ℕ) (x : Message) (k : Node) (os : List Output) → Takes n (event.Deliver q i x) k os
      → Contains s (record { from = q; output = output.Send 1 i x })
      → Stage o p from (ms ++ turn 1 (Receive q i x) (length es)) (es ++ event.Deliver q i x ∷ []) fs k m (s ++ sent_by 1 os)
  hear_1 q i x k os takes has =
      turn_1 (event.Deliver q i x) (Receive q i x) k os takes (heard (two o p es fs s) 1 (lived o es) q i x has)

  pub hear_2 : (q i : ℕ) (x : Message) (k : Node) (os : List Output) → Takes m (event.Deliver q i x) k os
      → Contains s (record { from = q; output = output.Send 2 i x })
      → Stage o p from (ms ++ turn 2 (Receive q i x) (length fs)) es (fs ++ event.Deliver q i x ∷ []) n k (s ++ sent_by 2 os)
  hear_2 q i x k os takes has =
      turn_2 (event.Deliver q i x) (Receive q i x) k os takes (heard (two o p es fs s) 2 (lived p fs) q i x has)

  pub lose_2 : (q i : ℕ) (x : Message) (k : Node) (os : List Output) → Takes m (event.Deliver q i x) k os
      → Contains s (record { from = q; output = output.Send 2 i x }) → Stage o p from (ms ++ lost 2 (Receive q i x) (length fs)) es fs n m s
  lose_2 q i x k os takes has = record {
    run = run_both from ms (two o p es fs s) (lost 2 (Receive q i x) (length fs)) _ stage.run
        (forgotten 2 (put_second (lived o es)) (seat_2 (lived o es)) p fs (event.Deliver q i x) (Receive q i x) s m k os stage.second takes
        (heard (two o p es fs s) 2 (lived p fs) q i x has _));
    first = stage.first;
    second = stage.second;
  }

-- ---- who is there, and how both begin

either_member : (x y m : Member) (q : ℕ) (a b : Bool) → nat_eq q 1 ≡ a → nat_eq q 2 ≡ b → cond a (Some y) (cond b (Some x) None) ≡ Some m
    → ((q ≡ 1) × (y ≡ m)) ⊎ ((q ≡ 2) × (x ≡ m))
either_member x y m q true b at other is = inl (eqb-true q 1 at, same_Some y m is)
either_member x y m q false true at other is = inr (eqb-true q 2 other, same_Some x m is)
either_member x y m q false false at other is = absurd (none-some m is)

-- one of the two
which : (o p : Opening) (es fs : List Event) (sent : List Sent) (q : ℕ) (m : Member) → IsAt (two o p es fs sent) q m
    → ((q ≡ 1) × (lived o es ≡ m)) ⊎ ((q ≡ 2) × (lived p fs ≡ m))
which o p es fs sent q m is = either_member (lived p fs) (lived o es) m q (nat_eq q 1) (nat_eq q 2) refl refl (simp tables at is)

-- what holds of both, each under its id
pub each_holds : (o p : Opening) (es fs : List Event) (sent : List Sent) (P : ℕ → Member → Type 0) → P 1 (lived o es) → P 2 (lived p fs)
    → (q : ℕ) (m : Member) → IsAt (two o p es fs sent) q m → P q m
each_holds o p es fs sent P first second q m is =
    elim (which o p es fs sent q m is) as (λ _. P q m) [
      | inl h ↦ subst (λ (k : ℕ). P k m) (sym h.0) (subst (P 1) h.1 first)
      | inr h ↦ subst (λ (k : ℕ). P k m) (sym h.0) (subst (P 2) h.1 second)
    ]

pub both_hold : (o p : Opening) (P : ℕ → Member → Type 0) → P 1 (lived o []) → P 2 (lived p []) → (q : ℕ) (m : Member) → IsAt (two o p [] [] []) q m → P q m
both_hold o p P first second = each_holds o p [] [] [] P first second

begins : (me : ℕ) (o : Opening) → o.me ≡ me → IsOpening o → IsFreshMember me (lived o [])
begins me o named opens = record { opening = opens; me = named; events = refl; released = refl; durable = refl }

pub fresh_two : (o p : Opening) → o.me ≡ 1 → p.me ≡ 2 → IsOpening o → IsOpening p → IsFreshCluster (two o p [] [] [])
fresh_two o p one other first second = record {
  members = both_hold o p IsFreshMember (begins 1 o one first) (begins 2 p other second);
  sent = refl;
}
