-- The moments of one call that touches one side.
use Rattle.std.proofs.Common.{ℕ, List}
use Rattle.cc_site.specs.declared.site.Side.{Side}
use Rattle.cc_site.specs.declared.site.Site.{Ghosts}
use Rattle.cc_site.specs.Sides.{SideState, MayLeave}
use Rattle.cc_site.specs.Moments.{Within}
use Rattle.cc_site.specs.Runs.{EachMoment, OnlyNow, Passes, goes_on, started}

-- where the bound allows all that a crash may leave before the call
pub during : {D : Type 0} (s : Ghosts D) (old new : D) (side : Side) (bound : SideState)
    → ((left : List ℕ) → MayLeave (s.state old side) left → MayLeave bound left) → OnlyNow s old
    → Passes s old new (Within side bound (s.state old) (s.sent old)) → EachMoment s old new (Within side bound (s.state old) (s.sent old))
during s old new side bound more only time =
    let here = Within side bound (s.state old) (s.sent old) in
    goes_on s old old new here here
    (started s old here (λ left told since. let now = only left told since in record {
      this = more (left side) (now.each side);
      rest = now.each _;
      outlet = now.outlet;
    }))
    time (λ left told has. has)
