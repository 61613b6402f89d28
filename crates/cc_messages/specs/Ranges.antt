-- Numbers of posts on one link that follow one another.
--     Range, range_code     the first and the last of them, and its code
--     IsRange r             it has at least one number, and none is 0
use Rattle.std.specs.Prelude.{ℕ, ◌≤◌, refl}
use Rattle.std.specs.Coded.{Coded, code_by, coded×, coded_ℕ}

pub record Range : Type 0 where
  pub first : ℕ
  pub last : ℕ

-- as the pair of its fields
abbrev pub range_code : Coded Range
range_code = code_by (ℕ × ℕ) (coded× coded_ℕ coded_ℕ) (λ r. (r.first, r.last)) (λ p. record { first = p.0; last = p.1 }) (λ _. refl)

pub record IsRange (r : Range) : Type 0 where
  pub some : 1 ≤ r.first
  pub ascends : r.first ≤ r.last
