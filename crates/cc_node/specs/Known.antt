-- What it means that ids were added to known ones, of which there are at most 256.
use Rattle.std.specs.Prelude.{◌≡◌, ℕ, ◌≤◌, ◌↔◌, Bool, IsTrue, List}
use Rattle.cc_views.specs.Limits.{known_limit}
use Rattle.cc_views.specs.NatSets as set
use Rattle.cc_views.specs.NatSets.{NatSet}

-- the answer tells whether they fit, and where they do, all of them were added
pub record Marks (before : NatSet) (ids : List ℕ) (fit : Bool) (after : NatSet) : Type 0 where
  pub fits : IsTrue fit ↔ (set.len (set.insert_all before ids) ≤ known_limit)
  pub added : IsTrue fit → after ≡ set.insert_all before ids
