use Rattle.std.proofs.Common.{◌≡◌, false, not, ◌&&◌, nat_lt, sym, ap, ◌∙◌}
use Rattle.cc_churn.specs.Churn.{has_joined, united}
use Rattle.cc_links.specs.Links.{heard_of}
use Rattle.cc_messages.specs.declared.message.Message.TheVariants as message
use Rattle.cc_node.specs.Core.{Core, lacks_echo, links_heard}
use Rattle.cc_node.specs.contracts.node_core.Core.{the_view}
use Rattle.cc_node.proofs.node_core.Core.lacks_echo.Goals as goal

pub returns : goal.returns
returns c n view some =
    let a = the_view c.self.inside in
    let m = message.Snapshot c.args.told.now view in
    let heard = heard_of (links_heard a c.args.from n m) in
    let counted : c.heard_with.result ≡ heard =
    c.heard_with.ensures n m some ∙ ap (λ (s : Core). heard_of (links_heard s c.args.from n m)) (sym c.self.view_is) in
    let joined : has_joined a.me (united c.args.told.now a.churn) ≡ false = sym c.knows_join.ensures ∙ c.if-knows_join.false in
    (λ i. nat_lt (c.echoes.ensures.echoes i) (counted i)) ∙ sym (ap (λ b. not b && nat_lt a.churn.echoes heard) joined)
    ∙ ap (λ (s : Core). lacks_echo s c.args.from n m) c.self.view_is
