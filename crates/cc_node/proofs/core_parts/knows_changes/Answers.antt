use Rattle.std.proofs.Common.{sym, ◌∙◌}
use Rattle.std.specs.Prelude.{◌↔◌, IsTrue}
use Rattle.cc_views.specs.NatSets.{IsWithin}
use Rattle.cc_node.proofs.RestoredRows.{ids_within}
use Rattle.cc_node.proofs.core_parts.knows_changes.Goals as goal
use Rattle.cc_node.proofs.core_parts.knows_changes.Goals.{After-knows_all, After-knows_all-2}

entered : (c : After-knows_all) → IsTrue c.knows_all.result ↔ IsWithin c.args.changes.now.entered c.args.links.now
entered c = rw (c.knows_all.ensures, c.entered.ensures.ids) (ids_within _ _)

joined : (c : After-knows_all-2) → IsTrue c.knows_all-2.result ↔ IsWithin c.args.changes.now.joined c.args.links.now
joined c = rw (c.knows_all-2.ensures, c.joined.ensures.ids) (ids_within _ _)

pub returns-then-not-knows_all : goal.returns-then-not-knows_all
returns-then-not-knows_all c =
    (λ h. cc, λ among. sym c.if-not-knows_all.true ∙ (entered (goal.at.returns-then-not-knows_all c).After-knows_all).1 among.entered)

pub returns-then-not-knows_all-2 : goal.returns-then-not-knows_all-2
returns-then-not-knows_all-2 c =
    (λ h. cc, λ among. sym c.if-not-knows_all-2.true ∙ (joined (goal.at.returns-then-not-knows_all-2 c).After-knows_all-2).1 among.joined)

pub returns : goal.returns
returns c =
    let left : IsTrue c.knows_all-3.result ↔ IsWithin c.args.changes.now.left c.args.links.now =
    rw (c.knows_all-3.ensures, c.left.ensures.ids) (ids_within _ _) in (
      λ h. record {
        entered = (entered (goal.at.returns c).After-knows_all).0 c.if-not-knows_all.false;
        joined = (joined (goal.at.returns c).After-knows_all-2).0 c.if-not-knows_all-2.false;
        left = left.0 h;
      },
      λ among. left.1 among.left,
    )
