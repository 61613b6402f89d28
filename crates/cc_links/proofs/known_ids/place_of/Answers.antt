use Rattle.cc_views.specs.Tables.{searched}
use Rattle.cc_views.specs.NatSets.{marked}
use Rattle.cc_links.proofs.known_ids.place_of.Goals as goal

pub returns : goal.returns
returns c =
    let facts = c.binary_search.ensures in
    searched marked c.args.numbers.now c.requires c.args.number _ facts.bound facts.position
