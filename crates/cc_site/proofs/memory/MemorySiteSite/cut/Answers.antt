use Rattle.std.proofs.Common.{◌∙◌, rules}
use Rattle.cc_site.specs.Sides.{shift}
use Rattle.cc_site.specs.Memory.{memory_state}
use Rattle.cc_site.proofs.Recorded.{Leaves, WithinBound, Cuts, cut_leaves, side_written, side_missed}
use Rattle.cc_site.proofs.memory.MemorySiteSite.cut.Goals as goal
use Rattle.cc_site.proofs.memory.MemorySiteSite.cut.Goals.{After-count}

cuts : (c : After-count) → Cuts c.cut-outcome.result c.args.self.now c.cut-outcome.new.self c.args.side c.args.len
cuts c =
    let w = c.cut-outcome.ensures in
    record { told = c.len-told.result; told_is = search rules; ok = w.ok; err = w.err; rest = w.other; adds = w.adds; missed = w.missed }

leaves : (c : After-count) → Leaves c.args.self.now c.cut-outcome.new.self c.args.side
    (WithinBound c.args.self.now c.args.side (shift (memory_state c.args.self.now c.args.side) c.args.len))
leaves c = cut_leaves c.cut-outcome.result _ _ _ _ c.requires (cuts c)

pub invariant_of-self : goal.invariant_of-self
invariant_of-self c =
    let l = leaves (goal.at.invariant_of-self c).After-count in
    record { room = search rules; told_fits = l.told; firm_fits = l.firm; are_bytes = l.bytes }

pub returns-clause-value : goal.returns-clause-value
returns-clause-value c = side_written _ _ _ _ _ c.cut-outcome.result c.count.result (c.count.ensures.outcome ∙ c.is_err.ensures.value)
    (cuts (goal.at.returns-clause-value c).After-count)

pub returns-clause-failed : goal.returns-clause-failed
returns-clause-failed c = side_missed _ _ _ _ _ c.cut-outcome.result c.count.result (c.count.ensures.outcome ∙ c.is_err.ensures.value)
    (cuts (goal.at.returns-clause-failed c).After-count)

pub returns-clause-other_side : goal.returns-clause-other_side
returns-clause-other_side c = (leaves (goal.at.returns-clause-other_side c).After-count).rest

pub returns-clause-time : goal.returns-clause-time
returns-clause-time c = (leaves (goal.at.returns-clause-time c).After-count).time
