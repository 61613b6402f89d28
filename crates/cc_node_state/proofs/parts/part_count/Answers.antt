use Rattle.std.proofs.Common.{ap, ◌∙◌, arith}
use Rattle.std.specs.FinMap as table
use Rattle.cc_node_state.proofs.PartLaws.{length-parts}
use Rattle.cc_node_state.proofs.parts.part_count.Goals as goal

pub returns-clause-count : goal.returns-clause-count
returns-clause-count c =
    let posts = c.post_count.ensures.count ∙ ap (λ o. table.len o.posts) c.outbox-outbox.ensures in
    let answers = c.answers.ensures.len ∙ ap (λ o. table.len o.answers) c.outbox-outbox.ensures in
    omega (arith, length-parts c.args.node.now, posts, answers)
