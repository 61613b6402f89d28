use Rattle.std.proofs.Common.{◌≡◌, ◌++◌, map, take}
use Rattle.cc_status.specs.ShownNodes.{told_session, session_told}
use Rattle.cc_status.proofs.members.push_sessions.Given as goal

abbrev pub invariant-loop-row : goal.invariant-loop-row
invariant-loop-row l =
    map told_session l.sessions.items ≡ map told_session l.initial.sessions.items ++ map session_told (take l.row-index l.rows)
