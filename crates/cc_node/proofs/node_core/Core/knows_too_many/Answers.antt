use Rattle.std.proofs.Common.{◌≡◌, Bool, true, false, not, [], ◌∷◌, ◌++◌, refl, subst, ◌∙◌, ap}
use Rattle.std.specs.FinMap as table
use Rattle.std.specs.Bool.{then_some}
use Rattle.cc_links.specs.KnownIds.{peers_of-rows_of}
use Rattle.cc_links.specs.Rows.{peers_of}
use Rattle.cc_views.specs.NatSets as set
use Rattle.cc_views.specs.NatSets.{NatSet}
use Rattle.cc_messages.specs.declared.refusal.Refusal.TheVariants as refusal
use Rattle.cc_node.specs.Core.{Core, ids_of}
use Rattle.cc_node.specs.Known.{Marks}
use Rattle.cc_node.specs.Refusals.{too_many_nodes}
use Rattle.cc_node.specs.contracts.node_core.Core.{the_view}
use Rattle.cc_node.proofs.Named.{marks_too_many, marks_then, too_many}
use Rattle.cc_node.proofs.node_core.Core.knows_too_many.Goals as goal
use Rattle.cc_node.proofs.node_core.Core.knows_too_many.Goals.{After-add_peers, After-mark_named}

-- the known ids, and then those of the message too
peers : (c : After-add_peers) → Marks set.empty (table.keys (the_view c.self.inside).links) c.add_peers.result c.add_peers.new.self
peers c =
    subst (λ s. Marks s (table.keys (the_view c.self.inside).links) c.add_peers.result c.add_peers.new.self) c.new-known.ensures
    (subst (λ qs. Marks c.new-known.result qs c.add_peers.result c.add_peers.new.self)
    (ap peers_of c.rows.ensures.rows ∙ peers_of-rows_of (the_view c.self.inside).links)
    (record { fits = c.add_peers.ensures.fits; added = c.add_peers.ensures.added }))

named : (c : After-mark_named) → c.add_peers.result ≡ true
    → Marks set.empty (table.keys (the_view c.self.inside).links) c.add_peers.result c.add_peers.new.self
    → Marks set.empty (ids_of c.args.message.now ++ table.keys (the_view c.self.inside).links) c.mark_named.result c.mark_named.new.known
named c fit before = marks_then _ _ _ _ (ids_of c.args.message.now) _ _ fit before c.mark_named.ensures

refused : (c : After-add_peers) (fit : Bool) (t : NatSet)
    → Marks set.empty ((c.args.from ∷ []) ++ (ids_of c.args.message.now ++ table.keys (the_view c.self.inside).links)) fit t
    → then_some (not fit) refusal.TooManyNodes ≡ too_many_nodes c.args.self.now (c.args.from ∷ ids_of c.args.message.now)
refused c fit t marks =
    ap (λ b. then_some b refusal.TooManyNodes)
    (too_many (the_view c.self.inside).posts c.args.from c.args.message.now (the_view c.self.inside).links fit t marks)
    ∙ ap (λ (s : Core). too_many_nodes s (c.args.from ∷ ids_of c.args.message.now)) c.self.view_is

pub returns-then-not-add_peers : goal.returns-then-not-add_peers
returns-then-not-add_peers c =
    let at = goal.at.returns-then-not-add_peers c in
    refused at.After-add_peers false _ (marks_too_many _ _ _ (c.args.from ∷ []) false refl
    (marks_too_many _ _ _ (ids_of c.args.message.now) _ c.if-not-add_peers.true (peers at.After-add_peers)))

pub returns-then-not-mark_named : goal.returns-then-not-mark_named
returns-then-not-mark_named c =
    let at = goal.at.returns-then-not-mark_named c in
    refused at.After-add_peers false _ (marks_too_many _ _ _ (c.args.from ∷ []) _ c.if-not-mark_named.true
    (named at.After-mark_named c.if-not-add_peers.false (peers at.After-add_peers)))

pub returns : goal.returns
returns c =
    let at = goal.at.returns c in
    refused at.After-add_peers c.add.result _ (marks_then _ _ _ _ (c.args.from ∷ []) _ _ c.if-not-mark_named.false
    (named at.After-mark_named c.if-not-add_peers.false (peers at.After-add_peers))
    (record { fits = c.add.ensures.fits; added = c.add.ensures.added }))
