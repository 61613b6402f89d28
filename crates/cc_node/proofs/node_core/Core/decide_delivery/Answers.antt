use Rattle.std.proofs.Common.{sym, ◌∙◌}
use Rattle.cc_node.specs.Refusals.{decides, decides_within}
use Rattle.cc_node.proofs.PartDecisions.{of_entered, of_number, err_there, err_then, ok_later, ok_then, ok_none, number_after}
use Rattle.cc_node.proofs.node_core.Core.decide_delivery.Goals as goal

pub returns-in_err-decide_delivery : goal.returns-in_err-decide_delivery
unfolding decides decides_within
returns-in_err-decide_delivery c =
    err_then of_entered _ _ c.self.view_is c.decide_delivery.ensures c.in_err-decide_delivery.was _ c.from_residual.ensures.1

pub returns-in_err-decide_number : goal.returns-in_err-decide_number
unfolding decides decides_within
returns-in_err-decide_number c =
    err_there (of_number c.args.self.now c.args.from c.args.number c.args.message.now) _ _ _ c.from_residual-in_err-decide_number.ensures.1
    (sym c.decide_number.ensures ∙ c.in_err-decide_number.was)
    ∙ ok_then of_entered _ _ c.self.view_is c.decide_delivery.ensures c.in_ok-decide_delivery.was

pub returns : goal.returns
unfolding decides decides_within
returns c =
    c.decide_message.ensures
    ∙ ok_later (of_number c.args.self.now c.args.from c.args.number c.args.message.now) _ (sym c.decide_number.ensures ∙ c.in_ok-decide_number.was)
    ∙ ok_then of_entered _ _ c.self.view_is c.decide_delivery.ensures c.in_ok-decide_delivery.was

pub decide_message-requires : goal.decide_message-requires
decide_message-requires c =
    number_after c.args.self.now c.args.from c.args.number c.args.message.now (ok_none _ (sym c.decide_number.ensures ∙ c.in_ok-decide_number.was))
