use Rattle.std.proofs.Common.{◌≡◌, ◌∷◌, ◌++◌, sym, ap, ◌∙◌, inl, inr}
use Rattle.std.specs.FinMap as table
use Rattle.cc_links.specs.Rows.{nodes_of}
use Rattle.cc_node.specs.Core.{ids_of}
use Rattle.cc_node.proofs.Named.{nodes_of-rows_of, echo_ids, snapshot_ids}
use Rattle.cc_node.proofs.named_nodes.named_by.Goals as goal

pub returns-in-EnterEcho : goal.returns-in-EnterEcho
returns-in-EnterEcho c =
    let t = c.in-EnterEcho in
    let rows = ap nodes_of c.rows.ensures.rows ∙ nodes_of-rows_of t.view in
    ap ids_of t.is ∙ sym (echo_ids t.changes t.view t.is_joined t.node)
    ∙ sym (λ i. c.from_ref.ensures.value i ++ (c.entered.ensures.ids i ++ (c.joined.ensures.ids i ++ (c.left.ensures.ids i ++ rows i))))

pub returns-in-Snapshot : goal.returns-in-Snapshot
returns-in-Snapshot c =
    let t = c.in-Snapshot in
    let rows = ap nodes_of c.rows-in-Snapshot.ensures.rows ∙ nodes_of-rows_of t.view in
    ap ids_of t.is ∙ sym (snapshot_ids t.changes t.view)
    ∙ sym (λ i. c.entered-in-Snapshot.ensures.ids i ++ (c.joined-in-Snapshot.ensures.ids i ++ (c.left-in-Snapshot.ensures.ids i ++ rows i)))

pub returns-in-QueryReply : goal.returns-in-QueryReply
returns-in-QueryReply c =
    let t = c.in-QueryReply in
    let rows = ap nodes_of c.rows-in-QueryReply.ensures.rows ∙ nodes_of-rows_of t.view in
    let ids : ids_of c.args.message.now ≡ t.node ∷ table.keys t.view = elim t.is [ inl h ↦ ap ids_of h.1 | inr h ↦ ap ids_of h.1 ] in
    ids ∙ ap (λ qs. t.node ∷ qs) (sym rows) ∙ sym c.named_by_rows-in-QueryReply.ensures
