-- How many of a count a share of it is.
use Rattle.std.specs.Prelude.{ℕ, ◌*◌, ◌<◌, ◌≤◌, max}
use Rattle.std.specs.Int.{div_ceil}
use Rattle.cc_changes.specs.declared.fraction.Fraction.{Fraction}

-- above 0 and at most 1
pub record IsShare (share : Fraction) : Type 0 where
  pub above : 0 < share.num
  pub within : share.num ≤ share.den

-- that share of a count, rounded up, and at least 1
abbrev pub needed : Fraction → ℕ → ℕ
needed share count = max 1 (div_ceil (share.num * count) share.den)
