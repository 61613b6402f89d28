use Rattle.std.proofs.Common.{refl}
use Rattle.cc_node.proofs.Effects.{next_skip, next_keeps, skip_room}
use Rattle.cc_node.proofs.node_core.Core.skip.Goals as goal

pub add-requires : goal.add-requires
add-requires c = skip_room c.args.from c.args.posts c.self.view_is c.requires

pub invariant_of-self : goal.invariant_of-self
invariant_of-self c =
    next_keeps _ c.self.view_is (next_skip c.args.from c.args.posts c.self.view_is (rw (c.hear.ensures, c.add.ensures, c.last.ensures.last) refl)) c.requires
    c.self.invariant

pub returns : goal.returns
returns c = next_skip c.args.from c.args.posts c.self.view_is (rw (c.hear.ensures, c.add.ensures, c.last.ensures.last) refl)
