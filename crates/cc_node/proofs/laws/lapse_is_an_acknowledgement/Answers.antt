use Rattle.cc_node.proofs.AbsentLaws.{lapse_taken, lapse_next}
use Rattle.cc_node.proofs.laws.lapse_is_an_acknowledgement.Goals as goal

pub returns : goal.returns
returns c = λ s q l e d. (lapse_taken s q l e d, lapse_next s q l e)
