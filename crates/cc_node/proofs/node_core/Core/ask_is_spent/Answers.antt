use Rattle.std.proofs.Common.{◌≡◌, ℕ, ◌&&◌, ◌||◌, [], ◌∷◌, nat_lt, sym, ap, subst, ◌∙◌}
use Rattle.std.specs.Prelude.{None, ◌==◌}
use Rattle.std.specs.FinMap as table
use Rattle.std.proofs.lemmas.Bool.{or_left, or_right, or_from}
use Rattle.cc_views.specs.Limits.{counter_limit}
use Rattle.cc_ops.specs.Ops.{is_idle}
use Rattle.cc_messages.specs.declared.event.Event.TheVariants as event
use Rattle.cc_messages.specs.Refusals.{first_of}
use Rattle.cc_node.specs.Core.{Core, next, quorum}
use Rattle.cc_node.specs.Refusals.{any_overruns, stale, skip}
use Rattle.cc_node.specs.contracts.node_core.Core.{the_view}
use Rattle.cc_node.proofs.LawfulLaws.{last_within}
use Rattle.cc_node.proofs.PartDecisions.{spent_ask, next_request, or_passes}
use Rattle.cc_node.proofs.node_core.Core.ask_is_spent.Goals as goal
use Rattle.cc_node.proofs.node_core.Core.ask_is_spent.Goals.{After-ask_is_spent, After-posts_are_spent}

-- what is looked at, one after the other
all : (c : After-ask_is_spent) (s : ℕ) → first_of (stale c.args.self.now s c.args.request ∷ skip c.args.self.now s c.args.request ∷ []) ≡ None
    → let a = the_view c.self.inside in let e = event.Ask s c.args.request c.args.command.now in
    any_overruns c.args.self.now (next c.args.self.now e) e
    ≡ (c.ask_is_spent.result || (is_idle a.ops.phase && (a.posts == counter_limit)) || nat_lt counter_limit c.args.request)
all c s h =
    let a = the_view c.self.inside in
    let r = c.args.request in
    let e = event.Ask s r c.args.command.now in
    let none = subst (λ (t : Core). first_of (stale t s r ∷ skip t s r ∷ []) ≡ None) (sym c.self.view_is) h in
    sym (ap (λ (t : Core). any_overruns t (next t e) e) c.self.view_is)
    ∙ spent_ask a s r c.args.command.now (next_request a s r none) (last_within (table.get a.sessions s) (c.self.invariant.sessions s))
    ∙ ap (λ b. b || (is_idle a.ops.phase && (a.posts == counter_limit)) || nat_lt counter_limit r) (sym (c.ask_is_spent.ensures a.me (quorum a) s r))

posted : (c : After-posts_are_spent) → let a = the_view c.self.inside in
    (is_idle a.ops.phase && (a.posts == counter_limit)) ≡ c.posts_are_spent.result
posted c = sym (c.posts_are_spent.ensures ∙ (λ i. c.is_idle.ensures i && ((sym c.self.view_is i).posts == counter_limit)))

pub returns-then-ask_is_spent : goal.returns-then-ask_is_spent
returns-then-ask_is_spent c s h = sym (all (goal.at.returns-then-ask_is_spent c).After-ask_is_spent s h ∙ or_left _ _ (or_left _ _ c.if-ask_is_spent.true))

pub returns-then-posts_are_spent : goal.returns-then-posts_are_spent
returns-then-posts_are_spent c s h =
    let at = goal.at.returns-then-posts_are_spent c in
    sym (all at.After-ask_is_spent s h ∙ or_left _ _ (or_right _ _ (posted at.After-posts_are_spent ∙ c.if-posts_are_spent.true)))

pub returns : goal.returns
returns c s h =
    let at = goal.at.returns c in
    sym (all at.After-ask_is_spent s h ∙ or_passes _ _ (or_from _ _ c.if-ask_is_spent.false (posted at.After-posts_are_spent ∙ c.if-posts_are_spent.false)))
