use Rattle.std.proofs.Common.{arith}
use Rattle.cc_views.proofs.NumberTables.{len_is, set_push, table_push, items_push}
use Rattle.cc_views.proofs.number_set.NumberSet.push.Goals as goal

pub bounds-self-inside-self-inside : goal.bounds-self-inside-self-inside
bounds-self-inside-self-inside c = omega (arith, len_is _ _ _ c.self.invariant c.self.view_is, c.requires.room)

pub invariant_of-self : goal.invariant_of-self
invariant_of-self c = table_push _ _ _ c.self.invariant c.self.view_is c.args.number c.requires.room c.requires.above

pub returns-clause-set : goal.returns-clause-set
returns-clause-set c = set_push _ _ _ c.self.invariant c.self.view_is c.args.number c.requires.room c.requires.above

pub returns-clause-items : goal.returns-clause-items
returns-clause-items c = items_push _ _ _ c.self.invariant c.self.view_is c.args.number c.requires.room c.requires.above
