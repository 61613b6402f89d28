use Rattle.std.proofs.Common.{◌≡◌, ℕ, ◌<◌, get_or, nat_eq, false}
use Rattle.cc_web.proofs.words.front_of.Given as goal

-- no byte so far is the end
abbrev pub invariant-loop-at : goal.invariant-loop-at
invariant-loop-at l = (k : ℕ) → k < l.at → nat_eq (get_or l.bytes k 0) l.end ≡ false
