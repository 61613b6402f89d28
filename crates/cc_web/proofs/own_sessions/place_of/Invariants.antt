use Rattle.std.proofs.Common.{◌≡◌, ℕ, ◌<◌, false}
use Rattle.cc_web.specs.OwnSessions.{is_free, row_at}
use Rattle.cc_web.proofs.own_sessions.place_of.Given as goal

-- no row so far is free
abbrev pub invariant-loop-at : goal.invariant-loop-at
invariant-loop-at l = (k : ℕ) → k < l.at → is_free l.is_doubtful (row_at l.rows k) ≡ false
