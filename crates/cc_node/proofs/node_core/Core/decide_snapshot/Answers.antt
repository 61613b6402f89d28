use Rattle.std.proofs.Common.{[], ◌∷◌, sym, ap, ◌∙◌}
use Rattle.cc_messages.specs.declared.event.Event.TheVariants as event
use Rattle.cc_messages.specs.Refusals.{first_of, decided}
use Rattle.cc_node.specs.Refusals.{decides, decides_within, outbox_full}
use Rattle.cc_node.proofs.PartDecisions.{of_member, err_then, ok_then, spent_snapshot}
use Rattle.cc_node.proofs.node_core.Core.decide_snapshot.Goals as goal

pub returns-in_err-decide_ask : goal.returns-in_err-decide_ask
unfolding decides decides_within
returns-in_err-decide_ask c = err_then of_member _ _ c.self.view_is c.decide_ask.ensures c.in_err-decide_ask.was _ c.from_residual.ensures.1

pub returns : goal.returns
unfolding decides decides_within
returns c =
    c.decide_post.ensures ∙ ap (λ o. decided (first_of (outbox_full c.args.self.now event.Snapshot ∷ o ∷ []))) (sym (spent_snapshot c.args.self.now))
    ∙ ok_then of_member _ _ c.self.view_is c.decide_ask.ensures c.in_ok-decide_ask.was
