-- What an `Ops` keeps.
--     phase_of stage seen      the phase, by its stage and the view that is stored back
--     WaitsBehind              asks wait only behind a pending operation
--     HasRoom line mine        the own set has room for what those that wait will put in
--     IsKept inside            both, the counters and the share within their limits, and a round that waits for more answers than it has
use Rattle.std.specs.Prelude.{◌≡◌, ℕ, ◌≤◌, ◌<◌, List, [], length, ⊤}
use Rattle.cc_views.specs.Limits.{counter_limit, set_limit}
use Rattle.cc_views.specs.NatSets as set
use Rattle.cc_views.specs.Rows.{ViewMap}
use Rattle.cc_views.specs.declared.value.Value.{Value}
use Rattle.cc_ops.specs.declared.pending_operation.Asked.{Asked}
use Rattle.cc_ops.specs.declared.stage.Stage.{Stage}
use Rattle.cc_ops.specs.declared.stage.Stage.TheVariants as stage
use Rattle.cc_ops.specs.Ops.{Phase, Idle, Storing, Querying, StoringBack, IsWaiting}
use Rattle.cc_ops.specs.WaitingAsks.{line_limit, written_by}

abbrev pub phase_of : Stage → ViewMap → Phase
phase_of stage.Idle seen = Idle
phase_of (stage.Storing p) seen = Storing p
phase_of (stage.Querying p) seen = Querying p
phase_of (stage.StoringBack p) seen = StoringBack p seen

-- the phase without the view that is stored back
abbrev pub stage_of : Phase → Stage
stage_of Idle = stage.Idle
stage_of (Storing p) = stage.Storing p
stage_of (Querying p) = stage.Querying p
stage_of (StoringBack p seen) = stage.StoringBack p

-- an operation that is pending waits for more answers than it has
abbrev pub HasWaiting : Stage → Type 0
HasWaiting stage.Idle = ⊤
HasWaiting (stage.Storing p) = IsWaiting p
HasWaiting (stage.Querying p) = IsWaiting p
HasWaiting (stage.StoringBack p) = IsWaiting p

abbrev pub WaitsBehind : Stage → List Asked → Type 0
WaitsBehind stage.Idle line = line ≡ []
WaitsBehind (stage.Storing p) line = ⊤
WaitsBehind (stage.Querying p) line = ⊤
WaitsBehind (stage.StoringBack p) line = ⊤

abbrev pub HasRoom : List Asked → Value → Type 0
HasRoom line mine = set.len (written_by line mine).set ≤ set_limit

pub record IsKept (written rounds share : ℕ) (mine : Value) (at : Stage) (others line : List Asked) : Type 0 where
  pub number : written ≤ counter_limit
  pub tag : rounds ≤ counter_limit
  pub some : 1 ≤ share
  pub few : share ≤ line_limit
  pub beside : length others < share
  pub waits : HasWaiting at
  pub behind : WaitsBehind at line
  pub room : HasRoom line mine
