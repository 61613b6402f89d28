use Rattle.std.proofs.Common.{◌∙◌, ap, sym, subst, arith, length, List, ℕ, nat_eq}
use Rattle.std.specs.List.{flat_map}
use Rattle.std.specs.List.Sorted.{IsPermutation}
use Rattle.std.proofs.lemmas.List.Filters.{dedup_is}
use Rattle.cc_views.specs.declared.row.Row.{Row}
use Rattle.cc_views.specs.AscendingLists.{IsAscending}
use Rattle.cc_views.specs.NatSets.{items}
use Rattle.cc_views.specs.Rows.{rows_of}
use Rattle.cc_objects.proofs.Readings.{ascending_dedup, as_many_rows, items_of_union}
use Rattle.cc_objects.proofs.reads.set_of.Goals as goal

pub returns-clause-numbers : goal.returns-clause-numbers
returns-clause-numbers c =
    let members = c.in_ok-numbers.ensures.numbers ∙ ap (flat_map (λ (row : Row). items row.value.set)) c.rows.ensures.rows in
    let moved = subst (λ (ns : List ℕ). IsPermutation ns c.sort_unstable.new.self.items) members c.sort_unstable.ensures.permutation in
    dedup_is nat_eq _ _ c.dedup.ensures.filtered ∙ items_of_union (rows_of c.args.view.now) c.sort_unstable.new.self.items moved c.sort_unstable.ensures.sorted

pub returns-clause-ascending : goal.returns-clause-ascending
returns-clause-ascending c =
    subst IsAscending (sym (dedup_is nat_eq _ _ c.dedup.ensures.filtered)) (ascending_dedup c.sort_unstable.new.self.items c.sort_unstable.ensures.sorted)

pub returns-clause-fits : goal.returns-clause-fits
returns-clause-fits c =
    omega (
      arith,
      c.dedup.ensures.bound,
      c.sort_unstable.ensures.len,
      c.in_ok-numbers.ensures.fits,
      ap length c.rows.ensures.rows,
      as_many_rows c.args.view.now,
      c.rows.ensures.fits,
    )
