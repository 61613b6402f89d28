-- What may have to be put out again: the posts that some live link has not acknowledged, by number, and the last answer of each session.
--     post_limit                         how many posts are kept at most
--     Outbox, outbox_code                both, and the number of the last post;  the code of an outbox
--     starting_after                     an outbox whose first post will have the next number
--     add, trim                          one post more;  the posts up to a number dropped
--     keep, forget                       the answer of a session, kept in place of an earlier one, or dropped
use Rattle.std.specs.Prelude.{ℕ, ◌+◌, nat_lt, refl}
use Rattle.std.specs.Coded.{Coded, code_by, coded×, coded_ℕ}
use Rattle.std.specs.Ordering.{nat_cmp}
use Rattle.std.specs.FinMap as map
use Rattle.std.specs.FinMap.{FinMap}
use Rattle.cc_messages.specs.declared.answer.Answer.{Answer}
use Rattle.cc_messages.specs.contracts.answer.Answer as answer
use Rattle.cc_messages.specs.declared.message.Message.{Message}
use Rattle.cc_messages.specs.contracts.message.Message as message

abbrev pub post_limit : ℕ
post_limit = 512

pub record Outbox : Type 0 where
  -- the number of the last post that was made
  pub last : ℕ
  pub posts : FinMap nat_cmp Message
  pub answers : FinMap nat_cmp Answer

abbrev pub outbox_code : Coded Outbox
outbox_code =
    code_by (ℕ × (FinMap nat_cmp Message × FinMap nat_cmp Answer))
    (coded× coded_ℕ (coded× (map.code coded_ℕ (message.the_row).coded) (map.code coded_ℕ (answer.the_row).coded)))
    (λ o. (o.last, (o.posts, o.answers))) (λ p. record { last = p.0; posts = p.1.0; answers = p.1.1 }) (λ _. refl)

abbrev pub starting_after : ℕ → Outbox
starting_after last = record { last = last; posts = map.empty; answers = map.empty }

-- a post, under the next number
abbrev pub add : Message → Outbox → Outbox
add m o = record { last = o.last + 1; posts = map.insert o.posts (o.last + 1) m; answers = o.answers }

-- the posts up to lowest are dropped
abbrev pub trim : ℕ → Outbox → Outbox
trim lowest o = record o { posts = map.retain_keys o.posts (λ number. nat_lt lowest number) }

abbrev pub keep : ℕ → Answer → Outbox → Outbox
keep session a o = record o { answers = map.insert o.answers session a }

abbrev pub forget : ℕ → Outbox → Outbox
forget session o = record o { answers = map.remove o.answers session }
