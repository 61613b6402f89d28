use Rattle.std.proofs.Common.{arith}
use Rattle.cc_policies.proofs.WithheldLaws.{skipped_length}
use Rattle.cc_policies.proofs.withheld.Withheld.len.Goals as goal

pub returns-in-Some-clause-len : goal.returns-in-Some-clause-len
returns-in-Some-clause-len c =
    rw (← c.self.view_is, c.in-Some.is) (omega (arith, skipped_length c.in-Some.run', c.last.ensures.last, c.first.ensures.first, c.first.ensures.range.ascends))
