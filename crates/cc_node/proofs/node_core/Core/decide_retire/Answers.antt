use Rattle.std.proofs.Common.{[], ◌∷◌, sym, ap, ◌∙◌}
use Rattle.cc_messages.specs.declared.refusal.Refusal.TheVariants as refusal
use Rattle.cc_messages.specs.Refusals.{first_of, decided}
use Rattle.cc_node.specs.Refusals.{decides, decides_within}
use Rattle.cc_node.proofs.PartDecisions.{of_retire, err_then, ok_then, first_holds, first_passes, spent_retire}
use Rattle.cc_node.proofs.node_core.Core.decide_retire.Goals as goal

pub returns-in_err-decide_retire : goal.returns-in_err-decide_retire
unfolding decides decides_within
returns-in_err-decide_retire c =
    err_then (of_retire c.args.node) _ _ c.self.view_is c.decide_retire.ensures c.in_err-decide_retire.was _ c.from_residual.ensures.1

pub returns-then-knows_too_many_with : goal.returns-then-knows_too_many_with
unfolding decides decides_within
returns-then-knows_too_many_with c =
    first_holds c.knows_too_many_with.result refusal.TooManyNodes _ _ c.knows_too_many_with.ensures c.if-knows_too_many_with.true
    ∙ ok_then (of_retire c.args.node) _ _ c.self.view_is c.decide_retire.ensures c.in_ok-decide_retire.was

pub returns : goal.returns
unfolding decides decides_within
returns c =
    ap (λ o. decided (first_of (o ∷ []))) (sym (spent_retire c.args.self.now c.args.node))
    ∙ first_passes c.knows_too_many_with.result refusal.TooManyNodes _ _ c.knows_too_many_with.ensures c.if-knows_too_many_with.false
    ∙ ok_then (of_retire c.args.node) _ _ c.self.view_is c.decide_retire.ensures c.in_ok-decide_retire.was
