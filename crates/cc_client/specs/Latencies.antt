-- Within how many microseconds operations were answered.
--     count_within           how many of them were answered within so many
--     IsWithin, IsShort      at least so many of a hundred were;  fewer were
--     IsQuantile             the least number of microseconds within which at least so many of a hundred were
use Rattle.std.specs.Prelude.{ℕ, ◌*◌, ◌<◌, ◌≤◌, List, length, count_by, nat_le}

abbrev pub count_within : ℕ → List ℕ → ℕ
count_within most all = count_by (λ micros. nat_le micros most) all

abbrev pub IsWithin : ℕ → List ℕ → ℕ → Type 0
IsWithin percent all most = percent * length all ≤ 100 * count_within most all

abbrev pub IsShort : ℕ → List ℕ → ℕ → Type 0
IsShort percent all most = 100 * count_within most all < percent * length all

pub record IsQuantile (percent : ℕ) (all : List ℕ) (micros : ℕ) : Type 0 where
  pub within : IsWithin percent all micros
  pub least : (fewer : ℕ) → fewer < micros → IsShort percent all fewer
