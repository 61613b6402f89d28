use Rattle.std.proofs.Common.{arith}
use Rattle.cc_node_state.proofs.PartLaws.{post_part, count_part, row_there, answer_part}
use Rattle.cc_node_state.proofs.parts.put_kept.Goals as goal

pub returns-then-at-posts : goal.returns-then-at-posts
returns-then-at-posts c = rw (post_part c.args.outbox.now c.args.at c.kept_post.result.now (omega arith) c.kept_post.ensures) c.put_message.ensures.writes

pub returns-then-at-posts-2 : goal.returns-then-at-posts-2
returns-then-at-posts-2 c = rw (count_part c.args.outbox.now c.args.at (omega arith)) (rw c.answers-answers.ensures.len at c.put_u16.ensures)

pub bounds-answers-at : goal.bounds-answers-at
bounds-answers-at c = row_there c.args.outbox.now c.args.at _ _ c.post_count-posts.ensures.count c.answers-answers.ensures.answers (omega arith) c.requires

pub offset_bounds-answers-at : goal.offset_bounds-answers-at
offset_bounds-answers-at c =
    omega (arith, row_there c.args.outbox.now c.args.at _ _ c.post_count-posts.ensures.count c.answers-answers.ensures.answers (omega arith) c.requires)

pub returns : goal.returns
returns c =
    let part = answer_part c.args.outbox.now c.args.at _ _ c.post_count-posts.ensures.count c.answers-answers.ensures.answers (omega arith) c.requires in
    rw (part c.index-answers-at.result c.index-answers-at.is) c.put_kept_answer.ensures
