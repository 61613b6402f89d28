-- A cluster whose members stay the same from first to last.
--     IsFixedCluster all c     each of its nodes began with these as joined, is one of them, and needs more than half of them
--     Stays move               with the move nobody enters, leaves or is retired
use Rattle.std.specs.Prelude.{◌≡◌, ℕ, ◌*◌, ◌<◌, IsTrue, List, Some, ⊤}
use Rattle.std.specs.FinMap as table
use Rattle.cc_views.specs.NatSets as set
use Rattle.cc_changes.specs.Need.{needed}
use Rattle.cc_messages.specs.declared.event.Event.{Event}
use Rattle.cc_messages.specs.declared.event.Event.TheVariants as event
use Rattle.cc_laws.specs.Clusters.{Member, Cluster, Move, Accept, Receive, Sync, Release, Resend, Crash}

abbrev pub count_of : List ℕ → ℕ
count_of all = set.len (set.from_list all)

pub record IsFixedMember (all : List ℕ) (q : ℕ) (m : Member) : Type 0 where
  pub initial : m.opening.initial ≡ all
  pub among : IsTrue (set.contains (set.from_list all) q)
  pub majority : count_of all < 2 * needed m.opening.beta (count_of all)

abbrev pub IsFixedCluster : List ℕ → Cluster → Type 0
IsFixedCluster all c = (q : ℕ) (m : Member) → table.get c.members q ≡ Some m → IsFixedMember all q m

abbrev pub StaysBy : Event → Type 0
StaysBy event.Enter = ⊥
StaysBy event.Leave = ⊥
StaysBy (event.Retire q) = ⊥
StaysBy _ = ⊤

abbrev pub Stays : Move → Type 0
Stays (Accept e) = StaysBy e
Stays _ = ⊤
