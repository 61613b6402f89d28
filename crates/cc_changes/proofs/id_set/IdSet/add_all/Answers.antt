use Rattle.cc_changes.proofs.Places.{united}
use Rattle.cc_changes.proofs.id_set.IdSet.add_all.Goals as goal

pub insert_all-requires-clause-fits : goal.insert_all-requires-clause-fits
insert_all-requires-clause-fits c = rw (c.deref.ensures.value, c.self.view_is, united _ _ _ c.other.invariant.rising c.other.view_is) c.requires

pub returns : goal.returns
returns c = rw (c.insert_all.ensures.ids, c.deref.ensures.value, c.self.view_is) (united _ _ _ c.other.invariant.rising c.other.view_is)
