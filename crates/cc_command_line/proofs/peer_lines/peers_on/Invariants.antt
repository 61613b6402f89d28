use Rattle.std.proofs.Common.{map, take}
use Rattle.cc_command_line.specs.Addresses.{ArePeers}
use Rattle.cc_command_line.specs.PeerLines.{said_on}
use Rattle.cc_command_line.proofs.peer_lines.peers_on.Given as goal

abbrev pub invariant-loop-i : goal.invariant-loop-i
invariant-loop-i l = ArePeers (said_on (map (λ w. w.now) (take l.i l.lines))) l.peers.items
