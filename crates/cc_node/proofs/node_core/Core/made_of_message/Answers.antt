use Rattle.std.proofs.Common.{◌≡◌, refl, sym, ap, ◌∙◌}
use Rattle.std.specs.Prelude.{List, Option, Some}
use Rattle.std.specs.Option.{option_or}
use Rattle.cc_messages.specs.declared.event.Event.TheVariants as event
use Rattle.cc_messages.specs.declared.message.Message.{Message}
use Rattle.cc_ops.specs.Ops.{replies_of}
use Rattle.cc_ops.specs.declared.pending_operation.Reply.{Reply}
use Rattle.cc_node.specs.Core.{Core, made, post}
use Rattle.cc_node.specs.declared.made.Made.{Made}
use Rattle.cc_node.specs.contracts.node_core.Core.{the_view}
use Rattle.cc_node.proofs.PartDecisions.{echoed, served, post_either}
use Rattle.cc_node.proofs.Effects.{delivery_room}
use Rattle.cc_node.proofs.node_core.Core.made_of_message.Goals as goal

pub post-requires-clause-fits : goal.post-requires-clause-fits
post-requires-clause-fits c = (delivery_room c.args.number c.self.view_is c.requires.taken c.self.invariant).changes

pub post-requires-2 : goal.post-requires-2
post-requires-2 c =
    let room = delivery_room c.args.number c.self.view_is c.requires.taken c.self.invariant in
    record { fits = room.view c.quorum-quorum.ensures; number = room.number c.quorum-quorum.ensures; tag = room.tag c.quorum-quorum.ensures }

pub returns : goal.returns
returns c =
    let a = the_view c.self.inside in
    let m = c.args.message.now in
    let e = event.Deliver c.args.from c.args.number m in
    let posted : c.or.result ≡ option_or (echoed a m) (served a m) =
    rw (
      c.or.ensures,
      c.in_ok-churned.ensures,
      c.view.ensures,
      c.in-Ok.ensures,
      c.quorum-quorum.ensures,
      c.is_joined-is_joined.ensures,
      ← c.self.view_is,
    ) refl in
    let answered : c.in-Ok-replies.answers ≡ replies_of a.me m a.ops = c.in-Ok-replies.ensures in
    let post_is : option_or (echoed a m) (served a m) ≡ post a e = sym (post_either a c.args.from c.args.number m c.requires.snapshot) in
    let told = Some (record { to = c.args.from; number = c.args.number }) in
    let all : Option Message → List Reply → Made = λ p rs. record { ack = told; post = p; answers = rs } in
    (λ i. all ((posted ∙ post_is) i) (answered i)) ∙ ap (λ (s : Core). made s e) c.self.view_is
