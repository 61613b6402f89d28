use Rattle.std.proofs.Common.{◌≡◌, ℕ, ◌&&◌, ◌||◌, nat_lt, sym, ap, ◌∙◌}
use Rattle.std.specs.Prelude.{is_some, ◌==◌}
use Rattle.std.proofs.lemmas.Bool.{or_left, or_right, or_from}
use Rattle.cc_views.specs.Limits.{counter_limit, overruns}
use Rattle.cc_churn.specs.Churn as churn
use Rattle.cc_ops.specs.Ops.{after_message}
use Rattle.cc_messages.specs.declared.event.Event.TheVariants as event
use Rattle.cc_node.specs.Core.{Core, next, post, quorum}
use Rattle.cc_node.specs.Refusals.{any_overruns}
use Rattle.cc_node.specs.contracts.node_core.Core.{the_view}
use Rattle.cc_node.proofs.PartDecisions.{counts, spent_delivery, or_passes}
use Rattle.cc_node.proofs.node_core.Core.message_is_spent.Goals as goal
use Rattle.cc_node.proofs.node_core.Core.message_is_spent.Goals.{After-is_spent}

-- what is looked at, one after the other
all : (c : After-is_spent) (from : ℕ) → let a = the_view c.self.inside in let e = event.Deliver from c.args.number c.args.message.now in
    any_overruns c.args.self.now (next c.args.self.now e) e
    ≡ (c.is_spent.result || (c.args.makes_post && (c.args.self.now.posts == counter_limit))
    || overruns a.churn.echoes (churn.after_message a.me a.gamma c.args.message.now a.churn).echoes || nat_lt counter_limit c.args.number)
all c from =
    let a = the_view c.self.inside in
    let m = c.args.message.now in
    let e = event.Deliver from c.args.number m in
    let counted = c.is_spent.ensures ∙ ap (λ q. counts a (after_message a.me q m a.ops)) (c.quorum.ensures ∙ ap quorum (sym c.self.view_is)) in
    let posted = c.requires.posts from ∙ ap (λ (s : Core). is_some (post s e)) (sym c.self.view_is) in
    sym (ap (λ (s : Core). any_overruns s (next s e) e) c.self.view_is)
    ∙ spent_delivery a from c.args.number m c.requires.snapshot
    ∙ (λ i. sym counted i || (sym posted i && ((c.self.view_is i).posts == counter_limit))
    || overruns a.churn.echoes (churn.after_message a.me a.gamma m a.churn).echoes || nat_lt counter_limit c.args.number)

pub returns-then-is_spent : goal.returns-then-is_spent
returns-then-is_spent c from = sym (all (goal.at.returns-then-is_spent c).After-is_spent from ∙ or_left _ _ (or_left _ _ (or_left _ _ c.if-is_spent.true)))

pub returns-then-posts_are_spent : goal.returns-then-posts_are_spent
returns-then-posts_are_spent c from =
    sym (all (goal.at.returns-then-posts_are_spent c).After-is_spent from
    ∙ or_left _ _ (or_left _ _ (or_right _ _ (sym c.posts_are_spent.ensures ∙ c.if-posts_are_spent.true))))

pub returns-then-is_spent-2 : goal.returns-then-is_spent-2
returns-then-is_spent-2 c from =
    sym (all (goal.at.returns-then-is_spent-2 c).After-is_spent from ∙ or_left _ _ (or_right _ _ (sym c.is_spent-2.ensures ∙ c.if-is_spent-2.true)))

pub returns : goal.returns
returns c from =
    sym (all (goal.at.returns c).After-is_spent from ∙ or_passes _ _
    (or_from _ _ (or_from _ _ c.if-is_spent.false (sym c.posts_are_spent.ensures ∙ c.if-posts_are_spent.false))
    (sym c.is_spent-2.ensures ∙ c.if-is_spent-2.false)))
