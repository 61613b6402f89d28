use Rattle.std.proofs.Common.{◌≡◌, ◌≤◌, ◌*◌, length, take}
use Rattle.cc_node_state.specs.Parts.{parts_of, joined}
use Rattle.cc_checkpoint.proofs.pieces.state_length.Given as goal

abbrev pub invariant-loop-at : goal.invariant-loop-at
invariant-loop-at l = record {
  counted : l.length ≡ length (joined (take l.at (parts_of l.node)));
  fits : l.length ≤ 60298 * l.at;
}
