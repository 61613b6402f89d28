use Rattle.std.proofs.Common.{◌≡◌, ℕ, ◌-◌, ◌&&◌, sym, ap, ◌∙◌}
use Rattle.std.specs.Prelude.{◌==◌}
use Rattle.std.specs.Bool.{then_some}
use Rattle.cc_messages.specs.declared.event.Event.TheVariants as event
use Rattle.cc_messages.specs.declared.refusal.Refusal.TheVariants as refusal
use Rattle.cc_ops.specs.Ops.{is_idle}
use Rattle.cc_outbox.specs.Outbox.{post_limit}
use Rattle.cc_node.specs.Core.{Core, lowest}
use Rattle.cc_node.specs.Refusals.{outbox_full}
use Rattle.cc_node.proofs.PartDecisions.{first_holds, first_passes, posts_if_idle}
use Rattle.cc_node.proofs.node_core.Core.decide_command.Goals as goal
use Rattle.cc_node.proofs.node_core.Core.decide_command.Goals.{After-has_no_room}

-- only an ask that begins has a post
full : (c : After-has_no_room) (n : ℕ) → then_some c.has_no_room.result refusal.OutboxFull
    ≡ outbox_full c.args.self.now (event.Ask n c.args.request c.args.command.now)
full c n =
    let s = c.args.self.now in
    ap (λ b. then_some b refusal.OutboxFull)
    (c.has_no_room.ensures
    ∙ ap (λ b. b && ((s.posts - lowest s) == post_limit))
    (c.is_idle.ensures ∙ ap (λ (t : Core). is_idle t.ops.phase) c.self.view_is ∙ sym (posts_if_idle s n c.args.request c.args.command.now)))

pub returns-then-has_no_room : goal.returns-then-has_no_room
returns-then-has_no_room c n h =
    first_holds c.has_no_room.result refusal.OutboxFull _ _ (full (goal.at.returns-then-has_no_room c).After-has_no_room n) c.if-has_no_room.true

pub returns-then-ask_is_spent : goal.returns-then-ask_is_spent
returns-then-ask_is_spent c n h =
    first_holds c.ask_is_spent.result refusal.Spent _ _ (ap (λ b. then_some b refusal.Spent) (c.ask_is_spent.ensures n h)) c.if-ask_is_spent.true
    ∙ first_passes c.has_no_room.result refusal.OutboxFull _ _ (full (goal.at.returns-then-ask_is_spent c).After-has_no_room n) c.if-has_no_room.false

pub returns : goal.returns
returns c n h =
    first_passes c.ask_is_spent.result refusal.Spent _ _ (ap (λ b. then_some b refusal.Spent) (c.ask_is_spent.ensures n h)) c.if-ask_is_spent.false
    ∙ first_passes c.has_no_room.result refusal.OutboxFull _ _ (full (goal.at.returns c).After-has_no_room n) c.if-has_no_room.false
