use Rattle.cc_node.proofs.Effects.{next_retire, next_keeps, retire_room}
use Rattle.cc_node.proofs.node_core.Core.retire.Goals as goal

pub add-requires : goal.add-requires
add-requires c = (retire_room c.args.node c.self.view_is c.requires c.self.invariant).links

pub leave-requires : goal.leave-requires
leave-requires c = (retire_room c.args.node c.self.view_is c.requires c.self.invariant).changes

pub invariant_of-self : goal.invariant_of-self
invariant_of-self c =
    next_keeps _ c.self.view_is (next_retire c.args.node c.self.view_is c.add.ensures c.leave.ensures) c.requires c.self.invariant

pub returns : goal.returns
returns c = next_retire c.args.node c.self.view_is c.add.ensures c.leave.ensures
