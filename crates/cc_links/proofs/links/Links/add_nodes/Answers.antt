use Rattle.cc_views.specs.declared.row.Row.{Row}
use Rattle.cc_links.proofs.AddedPeers.{fewer_fit, next_row}
use Rattle.cc_links.proofs.links.Links.add_nodes.Goals as goal

pub add-requires : goal.add-requires
add-requires c = fewer_fit c.args.posts _ _ _ (next_row (λ (r : Row). r.node) _ _ _ _ _ _ c.loop-row-test.true c.row-item.is c.loop-row.invariant) c.requires

pub loop-row-preserved : goal.loop-row-preserved
loop-row-preserved c = rw c.add.ensures (next_row (λ (r : Row). r.node) _ _ _ _ _ _ c.loop-row-test.true c.row-item.is c.loop-row.invariant)
