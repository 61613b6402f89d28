-- What the simple objects read over the rows of a view.
--     max_of v       the greatest maximum, 0 where there is no row
--     flag_of v      whether a flag is set
--     set_of v       the union of the sets
use Rattle.std.specs.Prelude.{ℕ, Bool, max, List, [], ◌∷◌, map}
use Rattle.std.specs.List.{list_any}
use Rattle.cc_views.specs.NatSets.{NatSet, empty, union}
use Rattle.cc_views.specs.Rows.{ViewMap, rows_of}

-- 0 is the least number
abbrev pub greatest : List ℕ → ℕ
greatest [] = 0
greatest (n ∷ ns) = max n (greatest ns)

abbrev pub union_all : List NatSet → NatSet
union_all [] = empty
union_all (s ∷ ss) = union s (union_all ss)

abbrev pub max_of : ViewMap → ℕ
max_of v = greatest (map (λ row. row.value.max) (rows_of v))

abbrev pub flag_of : ViewMap → Bool
flag_of v = list_any (λ row. row.value.flag) (rows_of v)

abbrev pub set_of : ViewMap → NatSet
set_of v = union_all (map (λ row. row.value.set) (rows_of v))
