use Rattle.std.proofs.Common.{arith}
use Rattle.cc_views.specs.NatLists.{len-items}
use Rattle.cc_wire.proofs.ascending_set.NumberSetAscendingSet.add_above.Goals as goal

pub push-requires-clause-room : goal.push-requires-clause-room
push-requires-clause-room c = omega (arith, len-items c.args.self.now, c.requires.room)
