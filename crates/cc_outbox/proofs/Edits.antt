-- What each edit makes of an outbox, by its posts and its rows of answers.
use Rattle.std.proofs.Common.{◌≡◌, ℕ, ◌+◌, ◌-◌, ◌≤◌, List, [], ◌∷◌, ◌++◌, length, drop, set, refl, sym, ap, ◌∙◌, arith, length-append, length-drop}
use Rattle.std.specs.Prelude.{min, nat_lt}
use Rattle.std.specs.Ordering.{nat_cmp}
use Rattle.std.specs.Cmp.{nat_cmp_total}
use Rattle.std.specs.FinMap as map
use Rattle.std.specs.FinMap.{FinMap, nat_cmp-IsAntisymmetric}
use Rattle.cc_views.specs.Entries.{entries_back}
use Rattle.std.specs.List.{insert, remove}
use Rattle.cc_views.specs.MapLaws.{remove_absent}
use Rattle.cc_views.specs.Tables.{IsRising, IsTable, IsAt, IsGapFor, table_of, table_of-set, table_of-insert, table_of-remove, get-gap, retain-from_entries}
use Rattle.cc_messages.specs.declared.answer.Answer.{Answer}
use Rattle.cc_messages.specs.declared.message.Message.{Message}
use Rattle.cc_outbox.specs.declared.kept_answer.KeptAnswer.{KeptAnswer}
use Rattle.cc_outbox.specs.Outbox.{Outbox, add, trim, keep, forget}
use Rattle.cc_outbox.specs.Rows.{entry_of, numbered, outbox_of, IsKept}
use Rattle.cc_outbox.proofs.Numbers.{sorted_numbered, length-numbered, find_past, numbered-append, numbers_above}

-- other answers stand beside the same posts
pub kept_answers : (last : ℕ) (posts : List Message) (post_room : ℕ) (rows : List KeptAnswer) (room : ℕ) → IsKept last posts post_room rows room
    → (others : List KeptAnswer) (other_room : ℕ) → IsTable entry_of 256 others other_room → IsKept last posts post_room others other_room
kept_answers last posts post_room rows room is others other_room table = record { numbers = is.numbers; fits = is.fits; room = is.room; answers = table }

-- how many posts there are
pub len_posts : (n : ℕ) (posts : List Message) → map.len (map.from_entries {R = nat_cmp} (numbered n posts)) ≡ length posts
len_posts n posts = map.len-entries _ ∙ ap length (entries_back (numbered n posts) (sorted_numbered n posts)) ∙ length-numbered n posts

module _ (last : ℕ) (posts : List Message) (rows : List KeptAnswer) (numbers : length posts ≤ last) where
  -- one post more
  pub outbox_of-add : (m : Message) → outbox_of (last + 1) (posts ++ m ∷ []) rows ≡ add m (outbox_of last posts rows)
  outbox_of-add m =
      let more : length (posts ++ m ∷ []) ≡ length posts + 1 = length-append posts (m ∷ []) in
      let start : last + 1 - length (posts ++ m ∷ []) ≡ last - length posts = omega arith in
      let entries : numbered (last + 1 - length (posts ++ m ∷ [])) (posts ++ m ∷ []) ≡ numbered (last - length posts) posts ++ (last + 1, m) ∷ [] =
      ap (λ (k : ℕ). numbered k (posts ++ m ∷ [])) start ∙ numbered-append (last - length posts) posts m (last + 1) (omega arith) in
      ap (λ (ps : FinMap nat_cmp Message). record { last = last + 1; posts = ps; answers = table_of entry_of rows })
      (ap (λ (es : List (ℕ × Message)). map.from_entries es) entries
      ∙ map.from_entries_push nat_cmp_total nat_cmp-IsAntisymmetric (numbered (last - length posts) posts) (last + 1) m
        (find_past (last - length posts) posts (last + 1) (omega arith)))

  -- the posts above a number are left
  pub outbox_of-trim : (low kept : ℕ) → kept ≡ min (last - low) (length posts) → outbox_of last (drop (length posts - kept) posts) rows ≡ trim low
    (outbox_of last posts rows)
  outbox_of-trim low kept is =
      let d = length posts - kept in
      let left : length (drop (length posts - kept) posts) ≡ length posts - (length posts - kept) = length-drop (length posts - kept) posts in
      let start : last - length (drop (length posts - kept) posts) ≡ last - length posts + (length posts - kept) = omega arith in
      ap (λ (ps : FinMap nat_cmp Message). record { last = last; posts = ps; answers = table_of entry_of rows })
      (ap (λ (es : List (ℕ × Message)). map.from_entries es)
      (sym (numbers_above low (last - length posts) posts d (last - length (drop (length posts - kept) posts)) (omega arith) start))
      ∙ sym (retain-from_entries (λ q. nat_lt low q) (numbered (last - length posts) posts)))

module _ (last : ℕ) (posts : List Message) (rows : List KeptAnswer) where
  with_table : FinMap nat_cmp Answer → Outbox
  with_table answers = record { last = last; posts = map.from_entries (numbered (last - length posts) posts); answers = answers }

  -- an answer in place of that of its session
  pub outbox_of-set : IsRising entry_of rows → (session i : ℕ) → IsAt entry_of rows session i → (a : Answer)
      → outbox_of last posts (set rows i (record { session = session; answer = a })) ≡ keep session a (outbox_of last posts rows)
  unfolding with_table
  outbox_of-set rising session i at a = ap with_table (table_of-set entry_of rows rising session i at (record { session = session; answer = a }) refl)

  -- an answer of a session that had none
  pub outbox_of-insert : (session i : ℕ) → IsGapFor entry_of rows session i → (a : Answer)
      → outbox_of last posts (insert rows i (record { session = session; answer = a })) ≡ keep session a (outbox_of last posts rows)
  unfolding with_table
  outbox_of-insert session i gap a = ap with_table (table_of-insert entry_of rows session i gap (record { session = session; answer = a }) refl)

  -- an answer is dropped
  pub outbox_of-forget : IsRising entry_of rows → (session i : ℕ) → IsAt entry_of rows session i → (d : KeptAnswer)
      → outbox_of last posts (remove rows i) ≡ forget session (outbox_of last posts rows)
  unfolding with_table
  outbox_of-forget rising session i at d = ap with_table (table_of-remove entry_of rows rising session i at d)

  -- there was none
  pub outbox_of-none : (session i : ℕ) → IsGapFor entry_of rows session i → outbox_of last posts rows ≡ forget session (outbox_of last posts rows)
  unfolding with_table
  outbox_of-none session i gap = ap with_table (remove_absent (table_of entry_of rows) session (get-gap entry_of rows session i gap))
