use Rattle.std.proofs.Common.{ℕ, List, ◌≡◌, ◌≤◌, ◌<◌, ◌-◌, ◌++◌, length, drop}
use Rattle.std.specs.Vec.{vec_capacity}
use Rattle.cc_node_state.specs.Parts.{parts_of, joined, piece_limit}
use Rattle.cc_checkpoint.proofs.piece.put_parts.Given as goal

abbrev pub invariant-loop-at : goal.invariant-loop-at
invariant-loop-at l = record {
  from : l.fn.from ≤ l.at;
  within : l.at ≤ length (parts_of l.node);
  parts : (parts : List (List ℕ)) × (drop l.fn.from (parts_of l.node) ≡ parts ++ drop l.at (parts_of l.node)) × (l.out.items ≡ joined parts);
  fits : length l.out.items ≤ piece_limit;
  some : l.fn.from < l.at → 1 ≤ length l.out.items;
  none : l.at ≡ l.fn.from → length l.out.items ≡ 0;
  room : vec_capacity l.fn.out ≤ vec_capacity l.out;
}

abbrev pub decreases-loop-at : goal.decreases-loop-at
decreases-loop-at l = length (parts_of l.node) - l.at
