use Rattle.std.proofs.Common.{map, take}
use Rattle.cc_command_line.specs.Addresses.{ArePeers}
use Rattle.cc_command_line.proofs.addresses.peers_in.Given as goal

abbrev pub invariant-loop-word : goal.invariant-loop-word
invariant-loop-word l = ArePeers (map (λ w. w.now) (take l.word-index l.words)) l.peers.items
