use Rattle.std.proofs.Common.{ap, arith}
use Rattle.cc_links.specs.LinkLaws.{lowest_within}
use Rattle.cc_node.specs.Core.{lowest}
use Rattle.cc_node.specs.contracts.node_core.Core.{the_view}
use Rattle.cc_node.proofs.node_core.Core.is_outbox_full.Goals as goal

pub overflow_sub-result : goal.overflow_sub-result
overflow_sub-result c =
    let a = the_view c.self.inside in
    let low = lowest_within a.churn.changes.left a.posts a.links c.self.invariant.links in
    let same = ap lowest c.self.view_is in
    omega (arith, low, same, c.lowest.ensures)
