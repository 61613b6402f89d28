use Rattle.std.proofs.Common.{sym, ◌∙◌, ap}
use Rattle.std.specs.Prelude.{is_some}
use Rattle.cc_messages.specs.declared.event.Event.TheVariants as event
use Rattle.cc_node.specs.Core.{Core, post}
use Rattle.cc_node.specs.contracts.node_core.Core.{the_view}
use Rattle.cc_node.proofs.PartDecisions.{makes_either, or_there}
use Rattle.cc_node.proofs.node_core.Core.is_answered.Goals as goal

pub returns-then-makes_post : goal.returns-then-makes_post
returns-then-makes_post c from n =
    let a = the_view c.self.inside in
    let m = c.args.message.now in
    or_there c.makes_post.result _ _ (c.makes_post.ensures a.ops.view) c.if-makes_post.true ∙ sym (makes_either a from n m c.requires)
    ∙ ap (λ (s : Core). is_some (post s (event.Deliver from n m))) c.self.view_is
