use Rattle.cc_node.proofs.Effects.{next_share, next_keeps, share_room}
use Rattle.cc_node.proofs.node_core.Core.change_share.Goals as goal

pub set_share-requires : goal.set_share-requires
set_share-requires c = share_room c.args.share c.self.view_is c.requires c.self.invariant

pub invariant_of-self : goal.invariant_of-self
invariant_of-self c = next_keeps _ c.self.view_is (next_share c.args.share c.self.view_is c.set_share.ensures) c.requires c.self.invariant

pub returns : goal.returns
returns c = next_share c.args.share c.self.view_is c.set_share.ensures
