use Rattle.std.proofs.Common.{[], ◌∷◌, sym, ap, ◌∙◌}
use Rattle.cc_messages.specs.Refusals.{first_of, decided}
use Rattle.cc_messages.specs.declared.event.Event.TheVariants as event
use Rattle.cc_node.specs.Core.{Core}
use Rattle.cc_node.specs.Refusals.{decides, decides_within, spent}
use Rattle.cc_node.proofs.AloneLaws.{behind}
use Rattle.cc_node.proofs.PartDecisions.{of_entered, of_share, err_then, ok_then, spent_share}
use Rattle.cc_node.proofs.node_core.Core.decide_share.Goals as goal

pub returns-in_err-decide_delivery : goal.returns-in_err-decide_delivery
unfolding decides decides_within
returns-in_err-decide_delivery c =
    err_then of_entered _ _ c.self.view_is c.decide_delivery.ensures c.in_err-decide_delivery.was _ c.from_residual.ensures.1

-- no share is spent
pub returns : goal.returns
unfolding decides decides_within
returns c =
    let s = c.args.self.now in
    let share = c.args.share in
    let none = spent_share s share c.decide_share.ensures.range in
    c.decide_share.ensures.exact ∙ ap (λ (k : Core). decided (first_of (of_share share k))) c.self.view_is
    ∙ ap decided (behind (of_share share s) [] (spent s (event.Share share) ∷ []) (sym (ap (λ o. first_of (o ∷ [])) none)))
    ∙ ok_then of_entered _ _ c.self.view_is c.decide_delivery.ensures c.in_ok-decide_delivery.was
