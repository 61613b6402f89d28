use Rattle.std.proofs.Common.{◌≡◌, ◌-◌, ◌&&◌, ap, ◌∙◌}
use Rattle.std.specs.Prelude.{◌==◌}
use Rattle.std.specs.Bool.{then_some}
use Rattle.cc_messages.specs.declared.event.Event.TheVariants as event
use Rattle.cc_messages.specs.declared.refusal.Refusal.TheVariants as refusal
use Rattle.cc_node.specs.Core.{lowest}
use Rattle.cc_outbox.specs.Outbox.{post_limit}
use Rattle.cc_node.specs.Refusals.{outbox_full}
use Rattle.cc_node.proofs.PartDecisions.{first_holds, first_passes}
use Rattle.cc_node.proofs.node_core.Core.decide_message.Goals as goal
use Rattle.cc_node.proofs.node_core.Core.decide_message.Goals.{After-has_no_room}

full : (c : After-has_no_room) → then_some c.has_no_room.result refusal.OutboxFull
    ≡ outbox_full c.args.self.now (event.Deliver c.args.from c.args.number c.args.message.now)
full c = ap (λ b. then_some b refusal.OutboxFull) (c.has_no_room.ensures
    ∙ ap (λ b. b && ((c.args.self.now.posts - lowest c.args.self.now) == post_limit)) c.makes_post-makes_post.ensures)

pub returns-then-knows_too_many : goal.returns-then-knows_too_many
returns-then-knows_too_many c = first_holds c.knows_too_many.result refusal.TooManyNodes _ _ c.knows_too_many.ensures c.if-knows_too_many.true

pub returns-then-has_no_room : goal.returns-then-has_no_room
returns-then-has_no_room c =
    first_holds c.has_no_room.result refusal.OutboxFull _ _ (full (goal.at.returns-then-has_no_room c).After-has_no_room) c.if-has_no_room.true
    ∙ first_passes c.knows_too_many.result refusal.TooManyNodes _ _ c.knows_too_many.ensures c.if-knows_too_many.false

pub returns-then-delivery_is_spent : goal.returns-then-delivery_is_spent
returns-then-delivery_is_spent c =
    first_holds c.delivery_is_spent.result refusal.Spent _ _ (ap (λ b. then_some b refusal.Spent) c.delivery_is_spent.ensures) c.if-delivery_is_spent.true
    ∙ first_passes c.has_no_room.result refusal.OutboxFull _ _ (full (goal.at.returns-then-delivery_is_spent c).After-has_no_room) c.if-has_no_room.false
    ∙ first_passes c.knows_too_many.result refusal.TooManyNodes _ _ c.knows_too_many.ensures c.if-knows_too_many.false

pub returns : goal.returns
returns c =
    first_passes c.delivery_is_spent.result refusal.Spent _ _ (ap (λ b. then_some b refusal.Spent) c.delivery_is_spent.ensures) c.if-delivery_is_spent.false
    ∙ first_passes c.has_no_room.result refusal.OutboxFull _ _ (full (goal.at.returns c).After-has_no_room) c.if-has_no_room.false
    ∙ first_passes c.knows_too_many.result refusal.TooManyNodes _ _ c.knows_too_many.ensures c.if-knows_too_many.false
