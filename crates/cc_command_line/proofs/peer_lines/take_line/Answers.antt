use Rattle.std.proofs.Common.{sym}
use Rattle.cc_command_line.specs.PeerLines.{said_in}
use Rattle.cc_command_line.proofs.SaidLines.{takes_one}
use Rattle.cc_command_line.proofs.peer_lines.take_line.Goals as goal

pub returns-clause-peers : goal.returns-clause-peers
returns-clause-peers c =
    rw c.in_ok-push.ensures.items (takes_one (said_in c.args.line.now) c.in-Some.word.now c.args.peers.now.items c.in-Some-peer_in.peer
    (sym c.in-Some.ensures) c.in-Some-peer_in.ensures)
