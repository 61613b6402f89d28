use Rattle.std.proofs.Common.{◌+◌, ℕ, sym, ap, ◌∙◌}
use Rattle.cc_links.specs.Links.{heard_from, heard_of}
use Rattle.cc_node.specs.Core.{Core, links_heard}
use Rattle.cc_node.specs.contracts.node_core.Core.{the_view}
use Rattle.cc_node.proofs.HeardPeers.{heard_first, heard_again}
use Rattle.cc_node.proofs.node_core.Core.heard_with.Goals as goal

pub returns-then-heard-eq0 : goal.returns-then-heard-eq0
returns-then-heard-eq0 c n m some =
    let a = the_view c.self.inside in
    let from = c.args.from in
    ap (λ (k : ℕ). k + 1) c.heard_of-heard.ensures.count
    ∙ heard_first a from n m some (ap (λ (s : Core). heard_from from s.links) c.self.view_is ∙ sym c.heard.ensures ∙ c.if-heard-eq0.true)
    ∙ ap (λ (s : Core). heard_of (links_heard s from n m)) c.self.view_is

pub returns-else-heard-eq0 : goal.returns-else-heard-eq0
returns-else-heard-eq0 c n m some =
    let a = the_view c.self.inside in
    let from = c.args.from in
    c.heard_of-heard.ensures.count
    ∙ heard_again a from n m some (λ none. c.if-heard-eq0.false (c.heard.ensures ∙ ap (λ (s : Core). heard_from from s.links) (sym c.self.view_is) ∙ none))
    ∙ ap (λ (s : Core). heard_of (links_heard s from n m)) c.self.view_is
