use Rattle.std.proofs.Common.{sym, ◌∙◌}
use Rattle.cc_node_state.proofs.LawfulFields.{lawful_builds}
use Rattle.cc_node_state.proofs.restored_node.restore.Goals as goal

pub returns-then-not-can_build-clause-lawful : goal.returns-then-not-can_build-clause-lawful
returns-then-not-can_build-clause-lawful c =
    (λ t. absurd cc, λ lawful. sym c.if-not-can_build.true ∙ c.can_build.ensures.1 (lawful_builds c.args.fields c.requires lawful))
