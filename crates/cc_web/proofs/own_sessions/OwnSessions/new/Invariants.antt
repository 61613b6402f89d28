use Rattle.std.proofs.Common.{◌≡◌, map, take}
use Rattle.cc_web.specs.OwnSessions.{fresh}
use Rattle.cc_web.proofs.own_sessions.OwnSessions.new.Given as goal

abbrev pub invariant-loop-last : goal.invariant-loop-last
invariant-loop-last l = l.rows.items ≡ map fresh (take l.last-index l.lasts)
