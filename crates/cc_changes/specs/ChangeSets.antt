-- What a node knows of who entered, joined and left.
--     ChangeSets, change_sets_code, nothing_known      the three sets, their code, and those of a node that knows nothing
--     add_enter, add_join, add_leave, union            the changes with one more, and with all of another's
--     present, members                                 who has entered, or joined, and hasn't left
--     FitsRoom                                         that each set has at most 256 ids
use Rattle.std.specs.Prelude.{ℕ, ◌≤◌, refl}
use Rattle.std.specs.Coded.{Coded, code_by, coded×}
use Rattle.cc_views.specs.Limits.{known_limit}
use Rattle.cc_views.specs.NatSets as set
use Rattle.cc_views.specs.NatSets.{NatSet, set_code}

pub record ChangeSets : Type 0 where
  pub entered : NatSet
  pub joined : NatSet
  pub left : NatSet

-- as the triple of its sets
abbrev pub change_sets_code : Coded ChangeSets
change_sets_code =
    code_by (NatSet × (NatSet × NatSet)) (coded× set_code (coded× set_code set_code))
    (λ c. (c.entered, (c.joined, c.left))) (λ p. record { entered = p.0; joined = p.1.0; left = p.1.1 }) (λ _. refl)

abbrev pub nothing_known : ChangeSets
nothing_known = record { entered = set.empty; joined = set.empty; left = set.empty }

abbrev pub add_enter : ChangeSets → ℕ → ChangeSets
add_enter c q = record { entered = set.insert c.entered q; joined = c.joined; left = c.left }

-- who joined has also entered
abbrev pub add_join : ChangeSets → ℕ → ChangeSets
add_join c q = record { entered = set.insert c.entered q; joined = set.insert c.joined q; left = c.left }

abbrev pub add_leave : ChangeSets → ℕ → ChangeSets
add_leave c q = record { entered = c.entered; joined = c.joined; left = set.insert c.left q }

-- all that both know; who joined has also entered
abbrev pub union : ChangeSets → ChangeSets → ChangeSets
union c d = record {
  entered = set.union c.entered (set.union d.entered d.joined);
  joined = set.union c.joined d.joined;
  left = set.union c.left d.left;
}

-- entered and not left
abbrev pub present : ChangeSets → NatSet
present c = set.difference c.entered c.left

-- joined and not left
abbrev pub members : ChangeSets → NatSet
members c = set.difference c.joined c.left

pub record FitsRoom (c : ChangeSets) : Type 0 where
  pub entered : set.len c.entered ≤ known_limit
  pub joined : set.len c.joined ≤ known_limit
  pub left : set.len c.left ≤ known_limit
