use Rattle.std.proofs.Common.{subst, sym}
use Rattle.cc_policies.specs.declared.client.Step.{Step}
use Rattle.cc_policies.specs.Clients.{IsAnswered}
use Rattle.cc_policies.proofs.ClientLaws.{kind_of_step}
use Rattle.cc_policies.proofs.client.Client.hear.Goals as goal

pub returns-clause-kind : goal.returns-clause-kind
returns-clause-kind c =
    subst (λ (s : Step). IsAnswered c.args.self.now.command s) (sym c.step.ensures.step) (kind_of_step c.args.self.now c.args.heard)
