-- How an outbox is kept: the posts in the order of their numbers, and the answers as rows.
use Rattle.std.specs.Prelude.{ℕ, ◌+◌, ◌-◌, ◌≤◌, List, [], ◌∷◌, length, map}
use Rattle.std.specs.FinMap.{from_entries, entries}
use Rattle.cc_views.specs.Limits.{session_limit}
use Rattle.cc_views.specs.Tables.{IsTable, table_of}
use Rattle.cc_messages.specs.declared.answer.Answer.{Answer}
use Rattle.cc_messages.specs.declared.message.Message.{Message}
use Rattle.cc_outbox.specs.declared.kept_answer.KeptAnswer.{KeptAnswer}
use Rattle.cc_outbox.specs.Outbox.{Outbox, post_limit}

-- an answer under its session
abbrev pub entry_of : KeptAnswer → ℕ × Answer
entry_of kept = (kept.session, kept.answer)

abbrev pub row_of : ℕ × Answer → KeptAnswer
row_of e = record { session = e.0; answer = e.1 }

-- the answers, by ascending session
abbrev pub answers_of : Outbox → List KeptAnswer
answers_of o = map row_of (entries o.answers)

-- posts under the numbers that follow n
abbrev pub numbered : ℕ → List Message → List (ℕ × Message)
numbered n [] = []
numbered n (m ∷ ms) = (n + 1, m) ∷ numbered (n + 1) ms

-- the outbox of these posts, of which the last has number `last`, and of these answers
abbrev pub outbox_of : ℕ → List Message → List KeptAnswer → Outbox
outbox_of last posts answers = record {
  last = last;
  posts = from_entries (numbered (last - length posts) posts);
  answers = table_of entry_of answers;
}

-- up to so many posts, and an answer a session, each with room for as many
pub record IsKept (last : ℕ) (posts : List Message) (post_room : ℕ) (kept : List KeptAnswer) (answer_room : ℕ) : Type 0 where
  pub numbers : length posts ≤ last
  pub fits : length posts ≤ post_limit
  pub room : post_limit ≤ post_room
  pub answers : IsTable entry_of session_limit kept answer_room
