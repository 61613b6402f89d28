use Rattle.std.proofs.Common.{[], ◌∷◌, sym, ap, ◌∙◌}
use Rattle.cc_messages.specs.declared.refusal.Refusal.TheVariants as refusal
use Rattle.cc_messages.specs.Refusals.{first_of, decided}
use Rattle.cc_node.specs.Refusals.{decides, decides_within}
use Rattle.cc_node.proofs.PartDecisions.{of_member, err_then, ok_then, first_holds, first_passes, spent_lapse}
use Rattle.cc_node.proofs.node_core.Core.decide_lapse.Goals as goal

pub returns-in_err-decide_ask : goal.returns-in_err-decide_ask
unfolding decides decides_within
returns-in_err-decide_ask c = err_then of_member _ _ c.self.view_is c.decide_ask.ensures c.in_err-decide_ask.was _ c.from_residual.ensures.1

pub returns-then-has_nothing_to_lapse : goal.returns-then-has_nothing_to_lapse
unfolding decides decides_within
returns-then-has_nothing_to_lapse c =
    first_holds c.has_nothing_to_lapse.result refusal.NothingToAck _ _ c.has_nothing_to_lapse.ensures c.if-has_nothing_to_lapse.true
    ∙ ok_then of_member _ _ c.self.view_is c.decide_ask.ensures c.in_ok-decide_ask.was

pub returns : goal.returns
unfolding decides decides_within
returns c =
    ap (λ o. decided (first_of (o ∷ []))) (sym (spent_lapse c.args.self.now c.args.node))
    ∙ first_passes c.has_nothing_to_lapse.result refusal.NothingToAck _ _ c.has_nothing_to_lapse.ensures c.if-has_nothing_to_lapse.false
    ∙ ok_then of_member _ _ c.self.view_is c.decide_ask.ensures c.in_ok-decide_ask.was
