use Rattle.std.proofs.Common.{ℕ, sym, ◌∙◌, subst}
use Rattle.cc_site.specs.ToldFaults.{LooksAtEither}
use Rattle.cc_checkpoint.specs.Faults.{CountsDevice}
use Rattle.cc_checkpoint.proofs.side_choice.choose.Goals as goal

pub returns-clause-fault : goal.returns-clause-fault
returns-clause-fault g c =
    let s = g.S.Site in
    let old = s.failures c.args.site.now in
    let same = c.in_ok-second.ensures.fault ∙ c.in_ok-first.ensures.fault in
    subst (λ (n : ℕ). CountsDevice LooksAtEither old n c.greater_of.result) (sym same) (c.greater_of.ensures.fault old)
