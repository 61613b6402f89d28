use Rattle.std.proofs.Common.{◌≡◌, ◌++◌, take}
use Rattle.cc_web.specs.Json.{row_json}
use Rattle.cc_web.proofs.Arrays.{glue, inside}
use Rattle.cc_web.proofs.json.put_rows.Given as goal

abbrev pub invariant-loop-row : goal.invariant-loop-row
invariant-loop-row l = record {
  out : l.out.items ≡ l.initial.out.items ++ inside row_json (take l.row-index l.rows);
  comma : l.comma ≡ glue (take l.row-index l.rows);
}
