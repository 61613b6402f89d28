-- The rows that keep links: a row is an entry of the map, and an entry is a row.
use Rattle.std.specs.Prelude.{ℕ, List, map}
use Rattle.std.specs.FinMap.{entries}
use Rattle.cc_views.specs.declared.row.Row.{Row}
use Rattle.cc_links.specs.declared.link_row.LinkRow.{LinkRow}
use Rattle.cc_links.specs.Links.{Link, Links}

abbrev pub link_of : LinkRow → Link
link_of row = record { start = row.start; acked = row.acked; heard = row.heard }

abbrev pub entry_of : LinkRow → ℕ × Link
entry_of row = (row.peer, link_of row)

abbrev pub row_of : ℕ × Link → LinkRow
row_of e = record { peer = e.0; start = e.1.start; acked = e.1.acked; heard = e.1.heard }

-- the rows of links, by ascending peer
abbrev pub rows_of : Links → List LinkRow
rows_of ls = map row_of (entries ls)

-- the ids that rows name
abbrev pub peers_of : List LinkRow → List ℕ
peers_of rows = map (λ (row : LinkRow). row.peer) rows

abbrev pub nodes_of : List Row → List ℕ
nodes_of rows = map (λ (row : Row). row.node) rows
