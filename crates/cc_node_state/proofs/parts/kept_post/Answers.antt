use Rattle.std.proofs.Common.{◌-◌, ◌+◌, arith}
use Rattle.cc_node_state.proofs.NodeStates.{post_at}
use Rattle.cc_node_state.proofs.parts.kept_post.Goals as goal

pub returns : goal.returns
returns c =
    (post_at _ _ _ c.post_count.ensures.last c.post_count.ensures.count c.args.at (c.last.result - c.post_count.result + c.args.at + 1) _
    (omega (arith, c.last.ensures)) (omega (arith, c.requires, c.post_count.ensures.count)) (rw c.unwrap.ensures at c.post.ensures)).1
