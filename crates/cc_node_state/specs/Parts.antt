-- A node's state in the parts that it is written in: four of its core, and one for each kept post, for the count of kept
-- answers, and for each of these.
--     parts_of            the spellings of the parts, in order
--     joined              parts one after the other
--     piece_limit         how many bytes a piece has at most
use Rattle.std.specs.Prelude.{ℕ, List, ◌∷◌, ◌++◌, length, map}
use Rattle.std.specs.Int.{w16, w64, to_be_bytes}
use Rattle.std.specs.List.{flat_map}
use Rattle.std.specs.FinMap as table
use Rattle.cc_wire.specs.Messages.{message_spelling}
use Rattle.cc_ops.specs.Ops.{Ops}
use Rattle.cc_outbox.specs.Outbox.{Outbox}
use Rattle.cc_node.specs.Core.{Core}
use Rattle.cc_node.specs.Node.{Node}
use Rattle.cc_node_state.specs.Layouts.{layout_for}
use Rattle.cc_node_state.specs.States.{membership_spelling, membership_of, stored_spelling, entering_spelling, round_spelling}
use Rattle.cc_node_state.specs.States.{table_spelling, link_spelling, session_spelling, kept_answer_spelling}

-- what is stored, and how far the own entering has come
abbrev pub own_spelling : Core → List ℕ
own_spelling c = stored_spelling c.ops.view c.ops.number c.ops.mine c.ops.tag ++ entering_spelling c.churn.echoes c.churn.need

-- how many posts there were, the links, the sessions, and how many posts are kept
abbrev pub front_spelling : Core → ℕ → List ℕ
front_spelling c kept =
    to_be_bytes w64 c.posts ++ (table_spelling link_spelling c.links ++ (table_spelling session_spelling c.sessions ++ to_be_bytes w16 kept))

-- the pending round, and the asks that wait behind it
abbrev pub operations_spelling : Ops → List ℕ
operations_spelling s = round_spelling (layout_for s.share) s.phase s.share s.others s.line

unfoldable pub kept_parts : Outbox → List (List ℕ)
kept_parts o = map message_spelling (table.values o.posts) ++ to_be_bytes w16 (table.len o.answers) ∷ map kept_answer_spelling (table.entries o.answers)

unfoldable pub parts_of : Node → List (List ℕ)
parts_of n =
    membership_spelling (membership_of n.core) ∷ own_spelling n.core ∷ operations_spelling n.core.ops
    ∷ front_spelling n.core (length (table.values n.outbox.posts)) ∷ kept_parts n.outbox

-- these parts one after the other
abbrev pub joined : List (List ℕ) → List ℕ
joined parts = flat_map (λ part. part) parts

abbrev pub piece_limit : ℕ
piece_limit = 65536
