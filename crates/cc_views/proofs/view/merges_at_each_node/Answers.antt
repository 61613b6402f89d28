use Rattle.cc_views.specs.MergeLaws.{get-merge}
use Rattle.cc_views.proofs.view.merges_at_each_node.Goals as goal

pub returns : goal.returns
returns c = get-merge
