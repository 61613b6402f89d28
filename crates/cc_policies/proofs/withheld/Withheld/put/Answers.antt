use Rattle.std.proofs.Common.{sym, ◌∙◌}
use Rattle.cc_policies.proofs.WithheldLaws.{held, waits}
use Rattle.cc_policies.proofs.withheld.Withheld.put.Goals as goal

pub returns-in-Some-clause-covers : goal.returns-in-Some-clause-covers
returns-in-Some-clause-covers c =
    rw (c.if-is_for.false) (held c.args.self.now c.args.number _ c.hold.result c.hold.new.self (sym c.with_next.ensures.joined ∙ c.in-Some.is) (rw (c.in-Some.is) at c.with_next.ensures.range).ascends c.hold.ensures)

pub returns-in-Some-clause-waits : goal.returns-in-Some-clause-waits
returns-in-Some-clause-waits c =
    λ _ _. waits c.args.self.now c.args.number _ c.hold.result c.hold.new.self (sym c.with_next.ensures.joined ∙ c.in-Some.is) (rw (c.in-Some.is) at c.with_next.ensures.range).ascends c.hold.ensures
