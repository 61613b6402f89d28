use Rattle.std.proofs.Common.{◌≡◌, ◌≤◌, length, ap, sym, ◌∙◌, arith}
use Rattle.std.specs.FinMap as table
use Rattle.std.proofs.lemmas.List.{length-map}
use Rattle.cc_views.specs.Rows.{row_of}
use Rattle.cc_views.specs.MergeLaws.{merge_row_is_no_larger}
use Rattle.cc_views.specs.declared.row.Row.{Row}
use Rattle.cc_bench.proofs.events.put_row.Goals as goal

pub merge_row-requires : goal.merge_row-requires
merge_row-requires c =
    let v = c.args.view.now in
    let row : Row = record { node = c.args.node; number = 1; value = c.empty.result } in
    let count : length c.rows.result.now ≡ table.len v = ap length c.rows.ensures.rows ∙ length-map (table.entries v) row_of ∙ sym (table.len-entries v) in
    omega (arith, merge_row_is_no_larger v row, count, c.if-rows-lt-MAX_ROWS.true)
