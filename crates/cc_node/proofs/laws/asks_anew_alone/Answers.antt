use Rattle.std.proofs.Common.{refl}
use Rattle.cc_node.specs.Core.{next}
use Rattle.cc_node.proofs.AbsentLaws.{anew_alone}
use Rattle.cc_node.proofs.laws.asks_anew_alone.Goals as goal

pub returns : goal.returns
unfolding next
returns c = λ s from n d v asks. (anew_alone s from n d v asks, refl)
