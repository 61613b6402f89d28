use Rattle.std.proofs.Common.{◌≡◌, ℕ, ◌<◌, get_or, nat_eq, false}
use Rattle.cc_status.proofs.request.path_of.Given as goal

-- no byte so far begins a query
abbrev pub invariant-loop-at : goal.invariant-loop-at
invariant-loop-at l = (k : ℕ) → k < l.at → nat_eq (get_or l.target k 0) 63 ≡ false
