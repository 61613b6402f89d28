use Rattle.std.proofs.Common.{◌+◌, ◌≤◌, arith}
use Rattle.cc_views.specs.NatLists.{rising_of_ascending}
use Rattle.cc_views.specs.NatSets.{marked, items}
use Rattle.cc_views.specs.Tables.{IsGapFor}
use Rattle.cc_views.proofs.NumberTables.{at_most_len, one_more_fits, table_insert, set_insert, set_held}
use Rattle.cc_views.proofs.number_set.NumberSet.insert.Goals as goal
use Rattle.cc_views.proofs.number_set.NumberSet.insert.Goals.{In-Err}

-- the place that was answered is a gap among the set's items
gap : (c : In-Err) → IsGapFor marked (items c.args.self.now) c.args.number c.in-Err.at
gap c = rw c.as_slice.ensures.numbers at c.in-Err.ensures

place : (c : In-Err) → (c.in-Err.at ≤ c.self.inside.len) × (c.self.inside.len + 1 ≤ 32)
place c = (at_most_len _ _ _ c.self.invariant c.self.view_is _ _ c.requires (gap c), one_more_fits _ _ _ c.self.invariant c.self.view_is _ _ c.requires (gap c))

pub place_of-requires : goal.place_of-requires
place_of-requires c = rising_of_ascending _ c.as_slice.ensures.ascending

pub copy_within-requires-clause-start_le_end : goal.copy_within-requires-clause-start_le_end
copy_within-requires-clause-start_le_end c = (place (goal.at.copy_within-requires-clause-start_le_end c).In-Err).0

pub copy_within-requires-clause-dest_in_bounds : goal.copy_within-requires-clause-dest_in_bounds
copy_within-requires-clause-dest_in_bounds c = let found = place (goal.at.copy_within-requires-clause-dest_in_bounds c).In-Err in omega (arith, c.self.told)

pub bounds-self-inside-at : goal.bounds-self-inside-at
bounds-self-inside-at c = let found = place (goal.at.bounds-self-inside-at c).In-Err in omega arith

pub invariant_of-self : goal.invariant_of-self
invariant_of-self c = rw c.copy_within.ensures.after (table_insert _ _ _ c.self.invariant c.self.view_is _ _ c.requires
    (gap (goal.at.invariant_of-self c).In-Err))

pub returns-in-Err : goal.returns-in-Err
returns-in-Err c = rw c.copy_within.ensures.after (set_insert _ _ _ c.self.invariant c.self.view_is _ _ c.requires (gap (goal.at.returns-in-Err c).In-Err))

pub returns-in_default : goal.returns-in_default
returns-in_default c = set_held _ _ _ c.self.invariant c.self.view_is _ _ (rw c.as_slice.ensures.numbers at (rw c.in_default.is at c.place_of.ensures))
