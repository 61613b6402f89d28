-- What is withheld from a peer: the numbers of posts that are for others.
--     skipped r                the numbers of a range, none of which is for the peer
--     covered due n            what is written, as what was put: each number, and whether its post is for the peer
--     IsNext run n             a number that the run goes on with
--     joined run n             the run with that number
--     Holds run due left       what becomes of a run that went on
use Rattle.std.specs.Prelude.{◌≡◌, ◌==◌, ◌<◌, ℕ, ◌+◌, Bool, true, false, if◌then◌else◌, List, [], ◌∷◌, ◌++◌, map, length, Option, None, Some, ⊤}
use Rattle.cc_messages.specs.Ranges.{Range}
use Rattle.cc_node.specs.Skips.{numbers}
use Rattle.cc_policies.specs.declared.withheld.Due.{Due}

-- a number that was put, and whether its post is for the peer
abbrev pub Put : Type 0
Put = ℕ × Bool

abbrev pub skipped : Range → List Put
skipped r = map (λ n. (n, false)) (numbers r)

-- what a run covers, where there is one
abbrev pub in_run : Option Range → List Put
in_run None = []
in_run (Some r) = skipped r

-- the run comes first, and then the post
abbrev pub covered : Due → ℕ → List Put
covered due n = in_run due.skip ++ (if due.has_post then (n, true) ∷ [] else [])

abbrev pub IsNext : Option Range → ℕ → Type 0
IsNext None n = ⊤
IsNext (Some r) n = n ≡ r.last + 1

-- the run with one number more, where it goes on with it
abbrev pub joined : Option Range → ℕ → Option Range
joined None n = None
joined (Some r) n = if n == (r.last + 1) then Some (record r { last = n }) else None

-- what a run that went on leaves: it is told once it has 64 numbers, and is withheld before
pub record Holds (run : Range) (due : Due) (left : Option Range) : Type 0 where
  pub no_post : due.has_post ≡ false
  pub covers : in_run due.skip ++ in_run left ≡ skipped run
  pub waits : length (skipped run) < 64 → due.skip ≡ None
