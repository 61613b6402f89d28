use Rattle.std.proofs.Common.{◌≡◌, length}
use Rattle.cc_node.specs.Node.{keep}
use Rattle.cc_node.proofs.node.keep_answers.Given as goal

abbrev pub invariant-loop-reply : goal.invariant-loop-reply
invariant-loop-reply l = keep l.left l.outbox ≡ keep l.fn.answers l.fn.outbox

abbrev pub decreases-loop-reply : goal.decreases-loop-reply
decreases-loop-reply l = length l.left
