-- What happens in a cluster, move after move.
--     Run c moves d          these moves lead from one cluster to the other
--     IsFreshCluster c       every node is fresh, under its own id, and nothing was sent
--     Occurs c v             a view somewhere in the cluster
--     IsWrittenBy c p k x    the k-th writing ask that node p accepted made x
use Rattle.std.specs.Prelude.{◌≡◌, ℕ, List, [], ◌∷◌, Some}
use Rattle.std.specs.List.{Contains}
use Rattle.std.specs.FinMap as table
use Rattle.cc_views.specs.Rows.{ViewMap}
use Rattle.cc_views.specs.declared.value.Value.{Value}
use Rattle.cc_node.specs.Openings.{IsOpening}
use Rattle.cc_laws.specs.Shown.{Shows, in_output}
use Rattle.cc_laws.specs.Written.{IsWriteOf}
use Rattle.cc_laws.specs.Clusters.{Member, Cluster, Sent, node_at, Move, MovesBy}

abbrev pub Step : Cluster → ℕ × Move → Cluster → Type 0
Step c move d = (m : Member) × (table.get c.members move.0 ≡ Some m) × MovesBy c move.0 m move.1 d

abbrev pub Run : Cluster → List (ℕ × Move) → Cluster → Type 0
Run c [] d = d ≡ c
Run c (move ∷ moves) d = (between : Cluster) × Step c move between × Run between moves d

pub record IsFreshMember (q : ℕ) (m : Member) : Type 0 where
  pub opening : IsOpening m.opening
  pub me : m.opening.me ≡ q
  pub events : m.events ≡ []
  pub released : m.released ≡ 0
  pub durable : m.durable ≡ 0

pub record IsFreshCluster (c : Cluster) : Type 0 where
  pub members : (q : ℕ) (m : Member) → table.get c.members q ≡ Some m → IsFreshMember q m
  pub sent : c.sent ≡ []

-- shown by a node as it is after some first part of what it accepted, all of it or what is durable, or in what was sent
pub data Occurs (c : Cluster) (v : ViewMap) : Type 0 where
  at_member : (q : ℕ) (m : Member) (k : ℕ) → table.get c.members q ≡ Some m → Shows (node_at m k) v → Occurs c v
  among_sent : (s : Sent) → Contains c.sent s → in_output s.output ≡ Some v → Occurs c v

abbrev pub IsWrittenBy : Cluster → ℕ → ℕ → Value → Type 0
IsWrittenBy c p k x = (m : Member) × (table.get c.members p ≡ Some m) × IsWriteOf m.events k x
