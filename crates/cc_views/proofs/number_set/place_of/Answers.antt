use Rattle.cc_views.specs.NatSets.{marked}
use Rattle.cc_views.specs.Tables.{searched}
use Rattle.cc_views.proofs.number_set.place_of.Goals as goal

pub returns : goal.returns
returns c = searched marked c.args.numbers.now c.requires c.args.number c.binary_search.result c.binary_search.ensures.bound c.binary_search.ensures.position
