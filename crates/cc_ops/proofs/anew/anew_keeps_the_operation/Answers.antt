use Rattle.cc_ops.proofs.AnewLaws.{anew_keeps}
use Rattle.cc_ops.proofs.anew.anew_keeps_the_operation.Goals as goal

pub returns : goal.returns
returns c = anew_keeps
