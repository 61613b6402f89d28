use Rattle.std.proofs.Common.{◌-◌, length, map, ap, ◌∙◌}
use Rattle.std.specs.Ordering.{nat_cmp}
use Rattle.std.specs.FinMap as finite
use Rattle.cc_messages.specs.declared.answer.Answer.{Answer}
use Rattle.cc_outbox.specs.Rows.{entry_of}
use Rattle.cc_outbox.proofs.Edits.{len_posts}
use Rattle.cc_outbox.proofs.outbox.Outbox.starting_after.Goals as goal

pub returns-clause-posts : goal.returns-clause-posts
returns-clause-posts c =
    let posts = c.in_ok-posts.posts.items in
    len_posts (c.args.last - length posts) posts ∙ ap length c.in_ok-posts.ensures.items

pub returns-clause-answers : goal.returns-clause-answers
returns-clause-answers c = ap (λ rows. finite.len (finite.from_entries {R = nat_cmp} (map entry_of rows))) c.in_ok-answers.ensures.items
    ∙ finite.len-empty nat_cmp Answer
