use Rattle.std.proofs.Common.{length, ap, arith}
use Rattle.cc_views.specs.NatSets.{items}
use Rattle.cc_wire.specs.Answers.{answer_spelling}
use Rattle.cc_wire.proofs.Lengths.{length-listed}
use Rattle.cc_wire.proofs.spelling_lengths.answer_len.Goals as goal

pub returns-in-Set-clause-len : goal.returns-in-Set-clause-len
returns-in-Set-clause-len c =
    omega (arith, ap length c.as_slice.ensures.numbers, length-listed (items c.in-Set.numbers), ap (λ a. length (answer_spelling a)) c.in-Set.is)
