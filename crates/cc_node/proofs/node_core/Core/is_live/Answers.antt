use Rattle.std.proofs.Common.{◌≡◌, not, ◌&&◌, refl, sym, ap, ◌∙◌}
use Rattle.std.specs.Prelude.{Option, Some, None, is_some, option_map}
use Rattle.std.specs.FinMap as table
use Rattle.std.proofs.lemmas.Bool.{and_left}
use Rattle.cc_views.specs.NatSets as set
use Rattle.cc_views.specs.NatSets.{contains-retain}
use Rattle.cc_node.specs.Core.{Core, live_links}
use Rattle.cc_node.specs.contracts.node_core.Core.{the_view}
use Rattle.cc_node.proofs.node_core.Core.is_live.Goals as goal
use Rattle.cc_node.proofs.node_core.Core.is_live.Goals.{After-is_some}

some_mapped : {X Y : Type 0} (f : X → Y) (o : Option X) → is_some o ≡ is_some (option_map f o)
some_mapped f None = refl
some_mapped f (Some x) = refl

live : (c : After-is_some) → table.contains_key (live_links c.args.self.now) c.args.peer
    ≡ (c.is_some.result && not (set.contains (the_view c.self.inside).churn.changes.left c.args.peer))
live c =
    let a = the_view c.self.inside in
    let gone = set.contains a.churn.changes.left in
    sym (ap (λ (s : Core). table.contains_key (live_links s) c.args.peer) c.self.view_is)
    ∙ contains-retain a.links (λ q. not (gone q)) c.args.peer
    ∙ ap (λ b. b && not (gone c.args.peer)) (sym (c.is_some.ensures ∙ some_mapped _ c.get.result ∙ ap is_some c.get.ensures.link))

pub returns-then-is_some : goal.returns-then-is_some
returns-then-is_some c =
    let gone = set.contains (the_view c.self.inside).churn.changes.left c.args.peer in
    ap not c.has_left.ensures ∙ sym (live (goal.at.returns-then-is_some c).After-is_some ∙ ap (λ b. b && not gone) c.if-is_some.true)

pub returns-else-is_some : goal.returns-else-is_some
returns-else-is_some c = c.if-is_some.false ∙ sym (live (goal.at.returns-else-is_some c).After-is_some ∙ and_left _ _ c.if-is_some.false)
