-- How many asks of one kind may begin together: the share of a round.
--     share_limit          a share is no greater
--     IsAskShare n         n is a share;  is_no_share: it is none
use Rattle.std.specs.Prelude.{ℕ, ◌≤◌, Bool, ◌||◌, nat_lt}

-- a round comes from the line, which has as many asks
abbrev pub share_limit : ℕ
share_limit = 32

pub record IsAskShare (n : ℕ) : Type 0 where
  pub some : 1 ≤ n
  pub most : n ≤ share_limit

abbrev pub is_no_share : ℕ → Bool
is_no_share n = nat_lt n 1 || nat_lt share_limit n
