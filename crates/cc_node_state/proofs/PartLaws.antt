-- The parts of a state.
--     parts_spell          together they are its spelling
--     length-parts         how many there are
--     post_part, count_part, answer_part     which part stands at each place behind those of the core
--     row_there            that there is such a row of the kept answers
--     length-session_table, length-front     how long the table of sessions is;  how long the front of the tables is
--     one_part_more       what was put from a part on, with one part more
--     joined_rest         what is left, where some parts were put
--     joined_more         what came up to a part
use Rattle.std.proofs.Common.{◌≡◌, ℕ, ◌+◌, ◌*◌, ◌-◌, ◌<◌, List, [], ◌∷◌, ◌++◌, length, map, get_or, take, drop, suc, refl, sym, ap, ◌∙◌}
use Rattle.std.proofs.Common.{append_assoc, arith}
use Rattle.std.specs.Int.{w16, w64, to_be_bytes}
use Rattle.std.specs.List.{flat_map}
use Rattle.std.specs.FinMap as table
use Rattle.std.proofs.lemmas.List.{length-append, length-map, get_or-map, get_or_append_left, get_or-append_right, take_more, drop_more, flat_map_more}
use Rattle.std.proofs.lemmas.List.Concat.{flat_map-cons, flat_map-append}
use Rattle.std.proofs.lemmas.List.Folds.{flat_map-map}
use Rattle.cc_messages.specs.declared.message.Message.{Message}
use Rattle.cc_wire.specs.Messages.{message_spelling}
use Rattle.cc_outbox.specs.Outbox.{Outbox}
use Rattle.cc_outbox.specs.declared.kept_answer.KeptAnswer.{KeptAnswer}
use Rattle.cc_outbox.specs.Rows.{entry_of, row_of, answers_of}
use Rattle.cc_sessions.specs.Sessions.{Requests}
use Rattle.cc_node.specs.Core.{Core}
use Rattle.cc_node.specs.Node.{Node}
use Rattle.cc_node_state.specs.States.{membership_spelling, membership_of, stored_spelling, entering_spelling, table_spelling, link_spelling, session_spelling}
use Rattle.cc_node_state.specs.States.{kept_answer_spelling, node_spelling}
use Rattle.cc_node_state.specs.Parts.{own_spelling, operations_spelling, front_spelling, kept_parts, parts_of, joined}
use Rattle.cc_node_state.proofs.NodeStates.{length-values}

-- ---- the kept posts, the count of kept answers, and these

joined_kept : (o : Outbox) → joined (kept_parts o) ≡ flat_map message_spelling (table.values o.posts) ++ table_spelling kept_answer_spelling o.answers
unfolding kept_parts
joined_kept o = simp (flat_map-append, flat_map-cons, flat_map-map)

regrouped : (a b c d e f g h i j : List ℕ)
    → a ++ ((b ++ c) ++ (d ++ ((e ++ (f ++ (g ++ h))) ++ (i ++ j)))) ≡ a ++ ((b ++ (c ++ d)) ++ (e ++ (f ++ (g ++ ((h ++ i) ++ j)))))
regrouped a b c d e f g h i j = simp append_assoc

pub parts_spell : (n : Node) → joined (parts_of n) ≡ node_spelling n
unfolding parts_of
parts_spell n =
    let s = n.core.ops in
    let membership = membership_spelling (membership_of n.core) in
    let posts = table.values n.outbox.posts in
    ap (λ (l : List ℕ). membership ++ (own_spelling n.core ++ (operations_spelling s ++ (front_spelling n.core (length posts) ++ l)))) (joined_kept n.outbox)
    ∙ regrouped membership (stored_spelling s.view s.number s.mine s.tag) (entering_spelling n.core.churn.echoes n.core.churn.need) (operations_spelling s)
    (to_be_bytes w64 n.core.posts) (table_spelling link_spelling n.core.links) (table_spelling session_spelling n.core.sessions)
    (to_be_bytes w16 (length posts)) (flat_map message_spelling posts) (table_spelling kept_answer_spelling n.outbox.answers)

-- ---- what stands at each place

pub length-kept_parts : (o : Outbox) → length (kept_parts o) ≡ table.len o.posts + 1 + table.len o.answers
unfolding kept_parts
length-kept_parts o = simp (length-append, length-map) (omega (arith, length-values o.posts, table.len-entries o.posts, table.len-entries o.answers))

pub length-parts : (n : Node) → length (parts_of n) ≡ 5 + table.len n.outbox.posts + table.len n.outbox.answers
unfolding parts_of
length-parts n = omega (arith, length-kept_parts n.outbox)

module _ (o : Outbox) (i : ℕ) where
  abbrev posts : List (List ℕ)
  posts = map message_spelling (table.values o.posts)

  many : length posts ≡ table.len o.posts
  many = length-map (table.values o.posts) message_spelling ∙ length-values o.posts

  abbrev behind : List (List ℕ)
  behind = to_be_bytes w16 (table.len o.answers) ∷ map kept_answer_spelling (table.entries o.answers)

  pub post_part : (m : Message) → i < table.len o.posts → m ≡ get_or (table.values o.posts) i m → get_or (kept_parts o) i [] ≡ message_spelling m
  unfolding kept_parts
  post_part m lt is =
      get_or_append_left posts behind [] i (omega (arith, many, lt))
      ∙ get_or-map message_spelling (table.values o.posts) i m [] (omega (arith, lt, length-values o.posts)) ∙ ap message_spelling (sym is)

  pub count_part : i ≡ table.len o.posts → get_or (kept_parts o) i [] ≡ to_be_bytes w16 (table.len o.answers)
  unfolding kept_parts
  count_part same =
      let first : i - table.len o.posts ≡ 0 = omega (arith, same) in
      get_or-append_right posts behind (table.len o.posts) i [] many (omega (arith, same)) ∙ ap (λ (k : ℕ). get_or behind k []) first

  -- behind these stands the row of this place
  module _ (k : ℕ) (rows : List KeptAnswer) (count : k ≡ table.len o.posts) (are : rows ≡ answers_of o) (past : k < i)
      (within : i < length (kept_parts o)) where
    abbrev place : ℕ
    place = i - k - 1

    there : place < length (table.entries o.answers)
    there = omega (arith, past, count, within, length-kept_parts o, table.len-entries o.answers)

    pub row_there : i - k - 1 < length rows
    row_there = omega (arith, there, ap length are, length-map (table.entries o.answers) row_of)

    pub answer_part : (kept : KeptAnswer) → kept ≡ get_or rows (i - k - 1) kept → get_or (kept_parts o) i [] ≡ kept_answer_spelling (entry_of kept)
    unfolding kept_parts
    answer_part kept is =
        let next : i - k ≡ suc place = omega (arith, past) in
        let es = table.entries o.answers in
        let row = is ∙ ap (λ (rs : List KeptAnswer). get_or rs place kept) are ∙ get_or-map row_of es place (entry_of kept) kept there in
        get_or-append_right posts behind k i [] (many ∙ sym count) (omega (arith, past)) ∙ ap (λ (k : ℕ). get_or behind k []) next
        ∙ get_or-map kept_answer_spelling es place (entry_of kept) [] there ∙ ap (λ row. kept_answer_spelling (entry_of row)) (sym row)

-- ---- rows of one length

length-same : {X : Type 0} (f : X → List ℕ) (k : ℕ) → ((x : X) → length (f x) ≡ k) → (xs : List X) → length (flat_map f xs) ≡ k * length xs
length-same f k each [] = omega arith
length-same f k each (x ∷ xs) = omega (arith, ap length (flat_map-cons f x xs), length-append (f x) (flat_map f xs), each x, length-same f k each xs)

pub length-session_table : (m : Requests) → length (table_spelling session_spelling m) ≡ 2 + 16 * table.len m
length-session_table m = omega (arith, length-same session_spelling 16 (λ e. refl) (table.entries m), table.len-entries m)

pub length-front : (c : Core) (kept : ℕ) → length (front_spelling c kept) ≡ 14 + 28 * table.len c.links + 16 * table.len c.sessions
length-front c kept =
    let links = length-same link_spelling 28 (λ e. refl) (table.entries c.links) in
    let sessions = length-same session_spelling 16 (λ e. refl) (table.entries c.sessions) in
    simp length-append (omega (arith, links, table.len-entries c.links, sessions, table.len-entries c.sessions))

-- ---- what is to come

-- these parts with one more behind them
joined_one : (put : List (List ℕ)) (part : List ℕ) → joined (put ++ part ∷ []) ≡ joined put ++ part
joined_one put part = sym (flat_map_more (λ part. part) [] put part)

-- the parts from one on are those that were put, and those from a later one on
abbrev pub Puts : List (List ℕ) → ℕ → ℕ → List ℕ → Type 0
Puts parts from at bytes = (put : List (List ℕ)) × (drop from parts ≡ put ++ drop at parts) × (bytes ≡ joined put)

pub one_part_more : (parts : List (List ℕ)) (from i : ℕ) (old new : List ℕ) → i < length parts → new ≡ old ++ get_or parts i []
    → Puts parts from i old → Puts parts from (i + 1) new
one_part_more parts from i old new lt put (before, is, was) =
    let part = get_or parts i [] in (
      before ++ part ∷ [],
      is ∙ ap (λ (l : List (List ℕ)). before ++ l) (drop_more parts i [] lt) ∙ sym (append_assoc before (part ∷ []) (drop (i + 1) parts)),
      put ∙ ap (λ (l : List ℕ). l ++ part) was ∙ sym (joined_one before part),
    )

-- what is left is what some parts are, and the rest
pub joined_rest : (left rest : List (List ℕ)) (bytes : List ℕ) → (put : List (List ℕ)) × (left ≡ put ++ rest) × (bytes ≡ joined put)
    → joined left ≡ bytes ++ joined rest
joined_rest left rest bytes (put, is, are) =
    ap joined is ∙ flat_map-append (λ part. part) put rest ∙ ap (λ (l : List ℕ). l ++ joined rest) (sym are)

-- what was put, up to a part and with it
pub joined_more : (parts : List (List ℕ)) (i : ℕ) → i < length parts → joined (take (i + 1) parts) ≡ joined (take i parts) ++ get_or parts i []
joined_more parts i lt = ap joined (take_more parts i [] lt) ∙ joined_one (take i parts) (get_or parts i [])
