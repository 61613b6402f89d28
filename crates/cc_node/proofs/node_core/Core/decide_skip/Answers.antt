use Rattle.std.proofs.Common.{[], ◌∷◌, sym, ap, ◌∙◌, arith}
use Rattle.cc_messages.specs.declared.refusal.Refusal.TheVariants as refusal
use Rattle.cc_messages.specs.Refusals.{first_of, decided}
use Rattle.cc_node.specs.Refusals.{decides, decides_within}
use Rattle.cc_node.proofs.PartDecisions.{of_entered, of_range, err_there, err_then, ok_later, ok_then, first_holds, first_passes, skip_is_spent, skip_passes}
use Rattle.cc_node.proofs.node_core.Core.decide_skip.Goals as goal

pub returns-in_err-decide_delivery : goal.returns-in_err-decide_delivery
unfolding decides decides_within
returns-in_err-decide_delivery c =
    err_then of_entered _ _ c.self.view_is c.decide_delivery.ensures c.in_err-decide_delivery.was _ c.from_residual.ensures.1

pub returns-in_err-decide_range : goal.returns-in_err-decide_range
unfolding decides decides_within
returns-in_err-decide_range c =
    err_there (of_range c.args.self.now c.args.from c.args.posts) _ _ _ c.from_residual-in_err-decide_range.ensures.1
    (sym c.decide_range.ensures ∙ c.in_err-decide_range.was)
    ∙ ok_then of_entered _ _ c.self.view_is c.decide_delivery.ensures c.in_ok-decide_delivery.was

pub returns-then-knows_too_many_with : goal.returns-then-knows_too_many_with
unfolding decides decides_within
returns-then-knows_too_many_with c =
    first_holds c.knows_too_many_with.result refusal.TooManyNodes _ _ c.knows_too_many_with.ensures c.if-knows_too_many_with.true
    ∙ ok_later (of_range c.args.self.now c.args.from c.args.posts) _ (sym c.decide_range.ensures ∙ c.in_ok-decide_range.was)
    ∙ ok_then of_entered _ _ c.self.view_is c.decide_delivery.ensures c.in_ok-decide_delivery.was

pub returns-then-last-gt-COUNTER_LIMIT : goal.returns-then-last-gt-COUNTER_LIMIT
unfolding decides decides_within
returns-then-last-gt-COUNTER_LIMIT c =
    ap (λ o. decided (first_of (o ∷ []))) (sym (skip_is_spent c.args.self.now c.args.from c.args.posts
    (omega (arith, c.last.ensures.last, c.if-last-gt-COUNTER_LIMIT.true))))
    ∙ first_passes c.knows_too_many_with.result refusal.TooManyNodes _ _ c.knows_too_many_with.ensures c.if-knows_too_many_with.false
    ∙ ok_later (of_range c.args.self.now c.args.from c.args.posts) _ (sym c.decide_range.ensures ∙ c.in_ok-decide_range.was)
    ∙ ok_then of_entered _ _ c.self.view_is c.decide_delivery.ensures c.in_ok-decide_delivery.was

pub returns : goal.returns
unfolding decides decides_within
returns c =
    ap (λ o. decided (first_of (o ∷ []))) (sym (skip_passes c.args.self.now c.args.from c.args.posts
    (omega (arith, c.last.ensures.last, c.if-last-gt-COUNTER_LIMIT.false))))
    ∙ first_passes c.knows_too_many_with.result refusal.TooManyNodes _ _ c.knows_too_many_with.ensures c.if-knows_too_many_with.false
    ∙ ok_later (of_range c.args.self.now c.args.from c.args.posts) _ (sym c.decide_range.ensures ∙ c.in_ok-decide_range.was)
    ∙ ok_then of_entered _ _ c.self.view_is c.decide_delivery.ensures c.in_ok-decide_delivery.was
