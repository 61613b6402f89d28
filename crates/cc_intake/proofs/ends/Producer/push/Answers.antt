use Rattle.std.proofs.Common.{◌≡◌, ◌<◌, length, None, sym, ap, subst}
use Rattle.cc_node.specs.Core.{made}
use Rattle.cc_node.specs.Refusals.{decides}
use Rattle.cc_intake.specs.Histories.{life_limit, core_after}
use Rattle.cc_intake.specs.Ends.{End}
use Rattle.cc_intake.proofs.Moves.{pushes, full_learns, finds}
use Rattle.cc_intake.proofs.ends.Producer.push.Goals as goal

pub push_as-requires-clause-rule : goal.push_as-requires-clause-rule
push_as-requires-clause-rule g c =
    let may = ap (λ v. v.pushes) c.self.invariant.2 in
    let is = sym c.self.view_is in
    let opening = g.L.Life.opening in (
      pushes opening g.L.Life.reached g.L.Life.taken _ _ _ c.args.entry may
          (subst (λ (e : End). length e.entries < life_limit) is c.requires.room)
          (subst (λ (e : End). decides (core_after opening e.entries) c.args.entry.event ≡ None) is c.requires.may_accept)
          (subst (λ (e : End). c.args.entry.made ≡ made (core_after opening e.entries) c.args.entry.event) is c.requires.made)
          (λ look. c.self.invariant.3 look _),
      full_learns opening g.L.Life.reached g.L.Life.taken _ _ may,
    )

pub another-requires-clause-rule : goal.another-requires-clause-rule
another-requires-clause-rule g c = finds g.L.Life.opening g.L.Life.reached g.L.Life.taken _ _
