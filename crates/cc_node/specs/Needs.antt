-- Whether the pending operation waits for more answers than it has to.
--     needs_more     whether a stage of an operation needs more answers than so many
--     needs_anew     whether the pending operation needs more than one would that begins now
use Rattle.std.specs.Prelude.{ℕ, nat_lt, Bool, false}
use Rattle.cc_ops.specs.declared.stage.Stage.{Stage}
use Rattle.cc_ops.specs.declared.stage.Stage.TheVariants as stage
use Rattle.cc_ops.specs.Stages.{stage_of}
use Rattle.cc_node.specs.Core.{Core, quorum}

abbrev pub needs_more : ℕ → Stage → Bool
needs_more quorum stage.Idle = false
needs_more quorum (stage.Storing p) = nat_lt quorum p.need
needs_more quorum (stage.Querying p) = nat_lt quorum p.need
needs_more quorum (stage.StoringBack p) = nat_lt quorum p.need

-- members have gone since its phase began
abbrev pub needs_anew : Core → Bool
needs_anew c = needs_more (quorum c) (stage_of c.ops.phase)
