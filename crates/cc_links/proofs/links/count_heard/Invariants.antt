use Rattle.std.proofs.Common.{◌≡◌, ◌+◌, ◌≤◌, drop}
use Rattle.cc_links.proofs.HeardLoop.{heard_rows}
use Rattle.cc_links.proofs.links.count_heard.Given as goal

abbrev pub invariant-loop-row : goal.invariant-loop-row
invariant-loop-row l = record {
  within : l.count ≤ l.row-index;
  rest : l.count + heard_rows (drop l.row-index l.rows) ≡ heard_rows l.rows;
}
