use Rattle.std.proofs.Common.{◌∙◌, ap}
use Rattle.cc_links.specs.Links as links
use Rattle.cc_views.specs.NatSets as set
use Rattle.cc_node.specs.Core as machine
use Rattle.cc_node.specs.contracts.node_core.Core.{the_view}
use Rattle.cc_node.proofs.Effects.{from_items}
use Rattle.cc_node.proofs.node_core.Core.lowest.Goals as goal

pub returns : goal.returns
returns c =
    let a = the_view c.self.inside in
    c.lowest_needed.ensures
    ∙ ap (λ left. links.lowest left a.posts a.links) (ap set.from_list c.left.ensures.ids ∙ from_items _ ∙ ap (λ s. s.left) c.changes.ensures)
    ∙ ap machine.lowest c.self.view_is
