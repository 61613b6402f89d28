use Rattle.std.proofs.Common.{◌≡◌, ◌≤◌, take, drop}
use Rattle.cc_views.specs.NatSets as set
use Rattle.cc_links.specs.Rows.{nodes_of}
use Rattle.cc_links.proofs.known_ids.KnownIds.add_nodes.Given as goal

abbrev pub invariant-loop-row : goal.invariant-loop-row
invariant-loop-row l = record {
  within : set.len l.self ≤ 256;
  rest : set.insert_all l.self (drop l.row-index (nodes_of l.rows)) ≡ set.insert_all l.fn.self (nodes_of l.rows);
  front : l.self ≡ set.insert_all l.fn.self (take l.row-index (nodes_of l.rows));
}
