use Rattle.std.proofs.Common.{◌≡◌, Bool, true, ◌&&◌, ◌||◌, sym, ap, ◌∙◌}
use Rattle.std.specs.Prelude.{◌==◌}
use Rattle.cc_views.specs.Limits.{counter_limit}
use Rattle.cc_node.specs.Core.{Core, asks_anew}
use Rattle.cc_node.specs.contracts.node_core.Core.{the_view}
use Rattle.cc_node.proofs.PartDecisions.{passes_none, rises}
use Rattle.cc_node.proofs.node_core.Core.anew_is_spent.Goals as goal

pub returns-then-asks_anew : goal.returns-then-asks_anew
returns-then-asks_anew c =
    let a = the_view c.self.inside in
    let s = c.args.self.now in
    let asks : asks_anew s c.args.from c.args.number c.args.message.now ≡ true = sym c.asks_anew.ensures ∙ c.if-asks_anew.true in
    c.anew_is_spent.ensures 0 ∙ (λ i. passes_none a.ops.number i || rises a.ops.tag i) ∙ ap (λ (k : Core). k.ops.tag == counter_limit) c.self.view_is
    ∙ sym (ap (λ (b : Bool). b && (s.ops.tag == counter_limit)) asks)
