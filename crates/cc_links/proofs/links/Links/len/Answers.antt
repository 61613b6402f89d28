use Rattle.std.proofs.Common.{arith, ap}
use Rattle.std.specs.FinMap as table
use Rattle.cc_views.specs.Tables.{len-table_of}
use Rattle.cc_links.specs.Rows.{entry_of}
use Rattle.cc_links.proofs.links.Links.len.Goals as goal

pub returns-clause-len : goal.returns-clause-len
returns-clause-len c = omega (arith, len-table_of entry_of c.self.inside.rows.items c.self.invariant.rising, ap table.len c.self.view_is)
