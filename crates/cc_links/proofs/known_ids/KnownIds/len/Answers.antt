use Rattle.std.proofs.Common.{arith, ap}
use Rattle.cc_views.specs.NatSets as set
use Rattle.cc_views.specs.Tables.{len-table_of}
use Rattle.cc_views.specs.NatSets.{marked}
use Rattle.cc_links.proofs.known_ids.KnownIds.len.Goals as goal

pub returns-clause-len : goal.returns-clause-len
returns-clause-len c = omega (arith, len-table_of marked c.self.inside.numbers.items c.self.invariant.rising, ap set.len c.self.view_is)
