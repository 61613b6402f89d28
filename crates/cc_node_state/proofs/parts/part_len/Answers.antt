use Rattle.std.proofs.Common.{arith}
use Rattle.cc_node_state.proofs.PartLaws.{length-front}
use Rattle.cc_node_state.proofs.parts.part_len.Goals as goal

pub returns-in-3-clause-some : goal.returns-in-3-clause-some
returns-in-3-clause-some c = omega (arith, c.front_len.ensures.len 0, length-front c.core-core.result.now 0)
