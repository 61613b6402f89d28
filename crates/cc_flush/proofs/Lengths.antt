-- How long a side is behind a record and the zeros ahead of it.
--     end_within        as long as up to the record's end at least
use Rattle.std.proofs.Common.{◌≡◌, ℕ, ◌+◌, ◌≤◌, max, arith}

pub end_within : (old end more new at : ℕ) → at ≤ end → new ≡ max old (end + more) → at ≤ new
end_within old end more new at up_to is = omega (arith, up_to, is)
