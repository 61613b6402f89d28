use Rattle.std.proofs.Common.{◌≡◌, ◌≤◌, not, drop}
use Rattle.std.specs.Prelude.{min}
use Rattle.cc_views.specs.NatSets as set
use Rattle.cc_links.proofs.LowestLoop.{lowest_by, AllReach}
use Rattle.cc_links.proofs.links.lowest_of.Given as goal

abbrev pub invariant-loop-row : goal.invariant-loop-row
invariant-loop-row l = record {
  within : l.lowest ≤ l.posts;
  reached : AllReach l.posts (drop l.row-index l.rows);
  rest : min l.lowest (lowest_by (λ q. not (set.contains (set.from_list l.left) q)) l.posts (drop l.row-index l.rows))
      ≡ lowest_by (λ q. not (set.contains (set.from_list l.left) q)) l.posts l.rows;
}
