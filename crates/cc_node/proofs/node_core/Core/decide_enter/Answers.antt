use Rattle.std.proofs.Common.{[], ◌∷◌, sym, ap, ◌∙◌}
use Rattle.cc_messages.specs.declared.event.Event.TheVariants as event
use Rattle.cc_messages.specs.Refusals.{first_of, decided}
use Rattle.cc_node.specs.Refusals.{decides, decides_within, outbox_full}
use Rattle.cc_node.proofs.PartDecisions.{of_enter, err_then, ok_then, spent_enter}
use Rattle.cc_node.proofs.node_core.Core.decide_enter.Goals as goal

pub returns-in_err-decide_enter : goal.returns-in_err-decide_enter
unfolding decides decides_within
returns-in_err-decide_enter c = err_then of_enter _ _ c.self.view_is c.decide_enter.ensures c.in_err-decide_enter.was _ c.from_residual.ensures.1

pub returns : goal.returns
unfolding decides decides_within
returns c =
    c.decide_post.ensures ∙ ap (λ o. decided (first_of (outbox_full c.args.self.now event.Enter ∷ o ∷ []))) (sym (spent_enter c.args.self.now))
    ∙ ok_then of_enter _ _ c.self.view_is c.decide_enter.ensures c.in_ok-decide_enter.was
