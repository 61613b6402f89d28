use Rattle.std.proofs.Common.{◌≡◌, ◌≤◌, ◌+◌, ◌++◌, length}
use Rattle.std.specs.Prelude.{◌↔◌}
use Rattle.cc_site.specs.Sides.{other}
use Rattle.cc_node_state.specs.States.{node_spelling}
use Rattle.cc_node_state.specs.Parts.{joined}
use Rattle.cc_checkpoint.specs.Checkpoints.{StaysBehind}
use Rattle.cc_checkpoint.proofs.checkpoint.write_pieces.Given as goal

abbrev pub invariant-loop-pieces : goal.invariant-loop-pieces
invariant-loop-pieces g l = let s = g.S.Site in let old = l.fn.site in record {
  honest : s.honest old ↔ s.honest l.site;
  tells : s.tells old ↔ s.tells l.site;
  sent : s.sent l.site ≡ s.sent old;
  other_side : s.honest old → s.state l.site (other l.side) ≡ s.state old (other l.side);
  value : s.honest old → (s.state l.site l.side).bytes ++ joined l.pieces ≡ (s.state old l.side).bytes ++ node_spelling l.node;
  place : l.place + length (joined l.pieces) ≡ l.fn.from + length (node_spelling l.node);
  within : s.honest old → l.place ≡ length (s.state l.site l.side).bytes;
  from : l.fn.from ≤ l.place;
  moments : s.honest old → StaysBehind s l.side old l.site;
  failures : s.failures l.site ≡ s.failures old;
}

abbrev pub decreases-loop-pieces : goal.decreases-loop-pieces
decreases-loop-pieces g l = length (joined l.pieces)
