use Rattle.std.proofs.Common.{not, sym, ap, ◌∙◌}
use Rattle.std.specs.Bool.{then_some}
use Rattle.cc_messages.specs.declared.event.Event.TheVariants as event
use Rattle.cc_messages.specs.declared.refusal.Refusal.TheVariants as refusal
use Rattle.cc_messages.specs.Refusals.{decided}
use Rattle.cc_node.specs.Core.{Core}
use Rattle.cc_node.specs.Refusals.{decides}
use Rattle.cc_node.specs.contracts.node_core.Core.{the_view}
use Rattle.cc_node.proofs.PartDecisions.{ack_refused}
use Rattle.cc_node.proofs.node_core.Core.decide_ack.Goals as goal

pub returns-then-not-awaits_ack : goal.returns-then-not-awaits_ack
returns-then-not-awaits_ack c =
    let a = the_view c.self.inside in
    ap (λ b. decided (then_some (not b) refusal.NothingToAck)) (sym c.if-not-awaits_ack.true ∙ c.awaits_ack.ensures)
    ∙ ap decided (ack_refused a c.args.peer c.args.number ∙ ap (λ (s : Core). decides s (event.Acked c.args.peer c.args.number)) c.self.view_is)

pub returns : goal.returns
returns c =
    let a = the_view c.self.inside in
    ap (λ b. decided (then_some (not b) refusal.NothingToAck)) (sym c.if-not-awaits_ack.false ∙ c.awaits_ack.ensures)
    ∙ ap decided (ack_refused a c.args.peer c.args.number ∙ ap (λ (s : Core). decides s (event.Acked c.args.peer c.args.number)) c.self.view_is)
