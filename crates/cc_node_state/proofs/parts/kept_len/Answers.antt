use Rattle.std.proofs.Common.{ap, length, arith}
use Rattle.cc_node_state.proofs.PartLaws.{post_part, count_part, row_there, answer_part}
use Rattle.cc_node_state.proofs.parts.kept_len.Goals as goal

pub returns-then-at-posts-clause-len : goal.returns-then-at-posts-clause-len
returns-then-at-posts-clause-len c =
    omega (arith, c.message_len.ensures.len, ap length (post_part c.args.outbox.now c.args.at c.kept_post.result.now (omega arith) c.kept_post.ensures))

pub returns-then-at-posts-2-clause-len : goal.returns-then-at-posts-2-clause-len
returns-then-at-posts-2-clause-len c = omega (arith, ap length (count_part c.args.outbox.now c.args.at (omega arith)))

pub bounds-answers-at : goal.bounds-answers-at
bounds-answers-at c = row_there c.args.outbox.now c.args.at _ _ c.post_count-posts.ensures.count c.answers.ensures.answers (omega arith) c.requires

pub offset_bounds-answers-at : goal.offset_bounds-answers-at
offset_bounds-answers-at c =
    omega (arith, row_there c.args.outbox.now c.args.at _ _ c.post_count-posts.ensures.count c.answers.ensures.answers (omega arith) c.requires)

pub returns-clause-len : goal.returns-clause-len
returns-clause-len c =
    let part = answer_part c.args.outbox.now c.args.at _ _ c.post_count-posts.ensures.count c.answers.ensures.answers (omega arith) c.requires in
    omega (arith, c.answer_len.ensures.len, ap length (part c.index-answers-at.result c.index-answers-at.is))
