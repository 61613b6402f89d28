use Rattle.std.proofs.Common.{◌∙◌, rules}
use Rattle.cc_site.specs.Moments.{Nothing}
use Rattle.cc_site.proofs.Recorded.{Leaves, sync_leaves, side_synced, side_unsynced}
use Rattle.cc_site.proofs.memory.MemorySiteSite.sync.Goals as goal
use Rattle.cc_site.proofs.memory.MemorySiteSite.sync.Goals.{After-count}

leaves : (c : After-count) → Leaves c.args.self.now c.sync-outcome.new.self c.args.side Nothing
leaves c =
    let w = c.sync-outcome in
    sync_leaves _ _ _ c.len-told.result (search rules) w.ensures.files.0 w.ensures.files.1 w.result w.ensures.adds w.ensures.err

pub invariant_of-self : goal.invariant_of-self
invariant_of-self c =
    let l = leaves (goal.at.invariant_of-self c).After-count in
    record { room = search rules; told_fits = l.told; firm_fits = l.firm; are_bytes = l.bytes }

pub returns-clause-value : goal.returns-clause-value
returns-clause-value c =
    let w = c.sync-outcome in
    side_synced c.args.self.now w.new.self _ c.len-told.result (search rules) w.ensures.files.0 w.ensures.files.1 w.result c.count.result
    (c.count.ensures.outcome ∙ c.is_err.ensures.value) w.ensures.adds

pub returns-clause-failed : goal.returns-clause-failed
returns-clause-failed c =
    let w = c.sync-outcome in
    side_unsynced c.args.self.now w.new.self _ c.len-told.result (search rules) w.ensures.files.0 w.ensures.files.1 w.result c.count.result
    (c.count.ensures.outcome ∙ c.is_err.ensures.value) w.ensures.err

pub returns-clause-other_side : goal.returns-clause-other_side
returns-clause-other_side c = (leaves (goal.at.returns-clause-other_side c).After-count).rest

pub returns-clause-time : goal.returns-clause-time
returns-clause-time c = (leaves (goal.at.returns-clause-time c).After-count).time
