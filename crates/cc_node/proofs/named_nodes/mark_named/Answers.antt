use Rattle.std.proofs.Common.{sym, subst}
use Rattle.cc_links.specs.Rows.{nodes_of}
use Rattle.cc_node.specs.Known.{Marks}
use Rattle.cc_node.proofs.named_nodes.mark_named.Goals as goal

pub returns : goal.returns
returns c =
    let rows : Marks c.args.known.now (nodes_of c.named_by.result.rows.now) c.add_nodes-fit.result c.add_nodes-fit.new.self =
    record { fits = c.add_nodes-fit.ensures.fits; added = c.add_nodes-fit.ensures.added } in
    subst (λ ids. Marks c.args.known.now ids c.mark_more.result c.mark_more.new.known) (sym c.named_by.ensures)
    (c.mark_more.ensures _ _ (c.mark_more-fit-3.ensures _ _ (c.mark_more-fit-2.ensures _ _ (c.mark_more-fit.ensures _ _ rows))))
