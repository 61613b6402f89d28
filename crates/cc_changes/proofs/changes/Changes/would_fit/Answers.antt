use Rattle.std.proofs.Common.{◌≡◌, length, ap, sym, ◌∙◌, arith}
use Rattle.cc_views.specs.NatSets as set
use Rattle.cc_views.specs.NatSets.{NatSet}
use Rattle.cc_views.specs.NatLists.{len-items}
use Rattle.cc_changes.specs.ChangeSets.{ChangeSets}
use Rattle.cc_changes.proofs.Unions.{fits_by_counts}
use Rattle.cc_changes.proofs.changes.Changes.would_fit.Goals as goal

pub returns : goal.returns
returns c =
    let mine = c.self.inside in
    let its = c.other.inside in
    let a : ChangeSets = record { entered = mine.entered; joined = mine.joined; left = mine.left } in
    let b : ChangeSets = record { entered = its.entered; joined = its.joined; left = its.left } in
    let entered : length c.as_slice.result.now ≡ set.len mine.entered = ap length c.as_slice.ensures.ids ∙ sym (len-items mine.entered) in
    let joined : length c.as_slice-2.result.now ≡ set.len mine.joined = ap length c.as_slice-2.ensures.ids ∙ sym (len-items mine.joined) in
    let left : length c.as_slice-3.result.now ≡ set.len mine.left = ap length c.as_slice-3.ensures.ids ∙ sym (len-items mine.left) in
    let by_counts = fits_by_counts a b _ _ _
    (omega (arith, entered, c.count_without.ensures.count, c.count_without_both.ensures.count))
    (omega (arith, joined, c.count_without-2.ensures.count))
    (omega (arith, left, c.count_without-3.ensures.count)) in
    rw (← c.self.view_is, ← c.other.view_is) (λ yes. by_counts.0 (c.all_fit.ensures.0 yes), λ fits. c.all_fit.ensures.1 (by_counts.1 fits))
