use Rattle.std.proofs.Common.{◌≡◌, ◌&&◌, ◌||◌, nat_lt, sym, ◌∙◌}
use Rattle.std.specs.Prelude.{◌==◌}
use Rattle.std.proofs.lemmas.Bool.{or_left, or_right, or_from}
use Rattle.cc_views.specs.Limits.{counter_limit}
use Rattle.cc_messages.specs.declared.event.Event.TheVariants as event
use Rattle.cc_node.specs.Core.{tells, next}
use Rattle.cc_node.specs.Refusals.{any_overruns}
use Rattle.cc_node.proofs.PartDecisions.{spent_told, or_passes}
use Rattle.cc_node.proofs.node_core.Core.told_is_spent.Goals as goal
use Rattle.cc_node.proofs.node_core.Core.told_is_spent.Goals.{After-anew_is_spent}

-- what is looked at, one after the other
all : (c : After-anew_is_spent) → let s = c.args.self.now in let e = event.Deliver c.args.from c.args.number c.args.message.now in
    any_overruns s (next s e) e ≡ (c.anew_is_spent.result || (c.args.makes_post && (s.posts == counter_limit))
    || (tells s c.args.from c.args.number c.args.message.now && (s.churn.echoes == counter_limit)) || nat_lt counter_limit c.args.number)
all c =
    let s = c.args.self.now in
    spent_told s c.args.from c.args.number c.args.message.now c.requires.snapshot
    ∙ (λ i. sym c.anew_is_spent.ensures i || (sym c.requires.posts i && (s.posts == counter_limit))
    || (tells s c.args.from c.args.number c.args.message.now && (s.churn.echoes == counter_limit)) || nat_lt counter_limit c.args.number)

pub returns-then-anew_is_spent : goal.returns-then-anew_is_spent
returns-then-anew_is_spent c =
    sym (all (goal.at.returns-then-anew_is_spent c).After-anew_is_spent ∙ or_left _ _ (or_left _ _ (or_left _ _ c.if-anew_is_spent.true)))

pub returns-then-posts_are_spent : goal.returns-then-posts_are_spent
returns-then-posts_are_spent c =
    sym (all (goal.at.returns-then-posts_are_spent c).After-anew_is_spent
    ∙ or_left _ _ (or_left _ _ (or_right _ _ (sym c.posts_are_spent.ensures ∙ c.if-posts_are_spent.true))))

pub returns-then-echo_is_spent : goal.returns-then-echo_is_spent
returns-then-echo_is_spent c =
    sym (all (goal.at.returns-then-echo_is_spent c).After-anew_is_spent ∙ or_left _ _ (or_right _ _ (sym c.echo_is_spent.ensures ∙ c.if-echo_is_spent.true)))

pub returns : goal.returns
returns c =
    sym (all (goal.at.returns c).After-anew_is_spent ∙ or_passes _ _
    (or_from _ _ (or_from _ _ c.if-anew_is_spent.false (sym c.posts_are_spent.ensures ∙ c.if-posts_are_spent.false))
    (sym c.echo_is_spent.ensures ∙ c.if-echo_is_spent.false)))
