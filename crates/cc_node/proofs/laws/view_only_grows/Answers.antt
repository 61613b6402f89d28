use Rattle.cc_node.proofs.CoreLaws.{view_grows, view_grows_along}
use Rattle.cc_node.proofs.laws.view_only_grows.Goals as goal

pub returns : goal.returns
returns c = record { event = view_grows; after = view_grows_along }
