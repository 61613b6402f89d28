-- What absorbing a row makes of a view's rows, at the place of its node or in the gap for it.
use Rattle.std.proofs.Common.{◌≡◌, ℕ, ◌+◌, ◌<◌, ◌≤◌, ltb, true, false, List, length, get_or, set, Some, None, refl, sym, ap, ◌∙◌, arith}
use Rattle.std.specs.List.{insert}
use Rattle.std.specs.Ordering.{nat_cmp}
use Rattle.std.specs.FinMap.Entries.{find}
use Rattle.std.proofs.lemmas.Bool.{lt-ltb, le-ltb}
use Rattle.std.proofs.lemmas.List.{length-map, set-get_or}
use Rattle.std.proofs.lemmas.List.Edits.{length-insert}
use Rattle.cc_views.specs.declared.row.Row.{Row}
use Rattle.cc_views.specs.Rows.{entry_of, entries_of, absorbed}
use Rattle.cc_views.specs.Tables.{IsRising, IsAt, IsGapFor, find-at, find-gap, put_set, put_insert}

module _ (rows : List Row) (rising : IsRising entry_of rows) (row d : Row) (i : ℕ) (at : IsAt entry_of rows row.node i) where
  there : find nat_cmp row.node (entries_of rows) ≡ Some ((get_or rows i d).number, (get_or rows i d).value)
  there = find-at entry_of rows rising row.node i at d

  -- a newer row is written over the one of its node
  pub absorbed_newer : (get_or rows i d).number < row.number → entries_of (set rows i row) ≡ absorbed (entries_of rows) row
  absorbed_newer lt =
      let test : ltb (get_or rows i d).number row.number ≡ true = lt-ltb _ _ lt in
      put_set entry_of rows rising row.node i at row refl ∙ sym (rw (there, test) refl)

  -- where it is no newer, all stays
  pub absorbed_older : row.number ≤ (get_or rows i d).number → entries_of rows ≡ absorbed (entries_of rows) row
  absorbed_older le =
      let test : ltb (get_or rows i d).number row.number ≡ false = le-ltb _ _ le in
      ap entries_of (sym (set-get_or rows i d)) ∙ put_set entry_of rows rising row.node i at (get_or rows i d) (at.has_key d) ∙ sym (rw (there, test) refl)

module _ (rows : List Row) (row : Row) (i : ℕ) (gap : IsGapFor entry_of rows row.node i) where
  none : find nat_cmp row.node (entries_of rows) ≡ None
  none = find-gap entry_of rows row.node i gap

  -- the row of a new node goes into its gap
  pub absorbed_new : entries_of (insert rows i row) ≡ absorbed (entries_of rows) row
  absorbed_new = put_insert entry_of rows row.node i gap row refl ∙ sym (rw none refl)

  -- so that there is one more
  pub length-absorbed_new : length (absorbed (entries_of rows) row) ≡ length rows + 1
  length-absorbed_new = omega (arith, ap length absorbed_new, length-map (insert rows i row) entry_of, length-insert rows i row gap.in_range)
