use Rattle.cc_changes.proofs.Unions.{enters_fit, joins_fit, united}
use Rattle.cc_changes.proofs.changes.Changes.union.Goals as goal

pub add_all-requires : goal.add_all-requires
add_all-requires c = enters_fit c.self.view_is c.other.view_is c.requires

pub add_all-requires-2 : goal.add_all-requires-2
add_all-requires-2 c = rw c.add_all.ensures (joins_fit c.self.view_is c.other.view_is c.requires)

pub returns : goal.returns
returns c = rw (c.add_all-2.ensures, c.add_all.ensures, c.add_all-3.ensures, c.add_all-4.ensures, ← c.self.view_is, ← c.other.view_is) (united _ _)
