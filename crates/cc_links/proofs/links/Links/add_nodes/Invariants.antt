use Rattle.std.proofs.Common.{◌≡◌, drop}
use Rattle.cc_links.specs.Links as links
use Rattle.cc_links.specs.Rows.{nodes_of}
use Rattle.cc_links.proofs.links.Links.add_nodes.Given as goal

abbrev pub invariant-loop-row : goal.invariant-loop-row
invariant-loop-row l = links.add_all l.posts (drop l.row-index (nodes_of l.rows)) l.self ≡ links.add_all l.posts (nodes_of l.rows) l.fn.self
