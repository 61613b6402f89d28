-- What a node may put out again has no view but those that the node shows.
--     has_shown
use Rattle.std.proofs.Common.{◌≡◌}
use Rattle.std.specs.Prelude.{Some}
use Rattle.cc_views.specs.Rows.{ViewMap}
use Rattle.cc_messages.specs.declared.output.Output.{Output}
use Rattle.cc_messages.specs.declared.output.Output.TheVariants as output
use Rattle.cc_node.specs.Node.{Node, HasOutput}
use Rattle.cc_laws.specs.Shown.{in_output, Shows, posted, answered}

pub has_shown : (n : Node) (o : Output) (v : ViewMap) → HasOutput n o → in_output o ≡ Some v → Shows n v
has_shown n (output.Send to wire m) v h is = posted h.0 m h.2 is
has_shown n (output.Ack to heard) v h is = cc
has_shown n (output.Reply s r a) v h is = answered s a h.0 is
