use Rattle.std.proofs.Common.{[], refl}
use Rattle.cc_views.specs.NatSets.{len-empty}
use Rattle.cc_views.specs.NatLists.{items-table_of}
use Rattle.cc_views.proofs.number_set.NumberSet.new.Goals as goal

pub returns-clause-items : goal.returns-clause-items
returns-clause-items c = items-table_of [] refl

pub returns-clause-len : goal.returns-clause-len
returns-clause-len c = len-empty
