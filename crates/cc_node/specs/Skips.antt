-- Numbers that are skipped.
--     single n              the range of one number
--     numbers_from first n  so many numbers from the first on
--     numbers r             the numbers of a range
--     skipped_in_turn c from ns     the core after the Skips of these numbers, one behind the other
--     AreKnown c ids        each of these nodes has a link
use Rattle.std.specs.Prelude.{◌≡◌, ℕ, zero, suc, ◌+◌, ◌-◌, true, List, [], ◌∷◌}
use Rattle.std.specs.List.{AllByRecursion}
use Rattle.std.specs.FinMap as table
use Rattle.cc_messages.specs.Ranges.{Range}
use Rattle.cc_messages.specs.declared.event.Event.TheVariants as event
use Rattle.cc_node.specs.Core.{Core, next}

abbrev pub single : ℕ → Range
single n = record { first = n; last = n }

abbrev pub numbers_from : ℕ → ℕ → List ℕ
numbers_from first zero = []
numbers_from first (suc n) = first ∷ numbers_from (first + 1) n

abbrev pub numbers : Range → List ℕ
numbers r = numbers_from r.first (r.last + 1 - r.first)

abbrev pub skipped_in_turn : Core → ℕ → List ℕ → Core
skipped_in_turn c from [] = c
skipped_in_turn c from (n ∷ ns) = skipped_in_turn (next c (event.Skip from (single n))) from ns

abbrev pub AreKnown : Core → List ℕ → Type 0
AreKnown c ids = AllByRecursion (λ q. table.contains_key c.links q ≡ true) ids
