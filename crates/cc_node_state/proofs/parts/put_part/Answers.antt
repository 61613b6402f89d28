use Rattle.std.proofs.Common.{sym, ◌∙◌, ap}
use Rattle.std.specs.FinMap as table
use Rattle.cc_node_state.proofs.NodeStates.{length-values}
use Rattle.cc_node_state.specs.Parts.{parts_of}
use Rattle.cc_node_state.proofs.parts.put_part.Goals as goal

pub returns-in-1 : goal.returns-in-1
unfolding parts_of
returns-in-1 c = rw c.in-1.is ((rw c.core-core.ensures.core at c.put_own.ensures))

pub returns-in-3 : goal.returns-in-3
unfolding parts_of
returns-in-3 c =
    let many = c.post_count.ensures.count ∙ ap (λ o. table.len o.posts) c.outbox-outbox.ensures ∙ sym (length-values c.args.node.now.outbox.posts) in
    rw c.in-3.is (rw (c.core-core.ensures.core, many) at c.put_front.ensures)
