use Rattle.std.proofs.Common.{◌≡◌, ◌++◌, map, take}
use Rattle.cc_status.specs.ShownNodes.{told_row, row_told}
use Rattle.cc_status.proofs.rows.push_rows.Given as goal

abbrev pub invariant-loop-row : goal.invariant-loop-row
invariant-loop-row l =
    map told_row l.shown.items ≡ map told_row l.initial.shown.items ++ map row_told (take l.row-index l.rows)
