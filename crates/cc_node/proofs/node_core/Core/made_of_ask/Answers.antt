use Rattle.std.proofs.Common.{sym, ◌∙◌}
use Rattle.cc_node.proofs.Effects.{begin_room}
use Rattle.cc_node.proofs.node_core.Core.made_of_ask.Goals as goal

pub first_post-requires : goal.first_post-requires
first_post-requires c =
    let room = begin_room c.self.view_is c.requires c.self.invariant (sym c.is_idle.ensures ∙ c.if-not-is_idle.false) in
    record { room = room.set; fits = room.view c.quorum.ensures; number = room.number c.quorum.ensures; tag = room.tag c.quorum.ensures }
