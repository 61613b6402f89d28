-- A view as a finite map from nodes to pairs of a number and a value, and the rows that keep it.
use Rattle.std.specs.Prelude.{ℕ, List, [], ◌∷◌, map, Option, Some, None, nat_lt, if◌then◌else◌, Bool}
use Rattle.std.specs.Ordering.{nat_cmp}
use Rattle.std.specs.Coded.{Coded, code_by, coded×, coded_ℕ, coded_bool, coded_list}
use Rattle.std.proofs.Common.{refl}
use Rattle.std.specs.FinMap.{FinMap, code, entries, from_entries, find, put}
use Rattle.cc_views.specs.NatSets.{NatSet, set_code}
use Rattle.cc_views.specs.declared.value.Value.{Value}
use Rattle.cc_views.specs.declared.row.Row.{Row}

-- the number of a store, and what was stored
abbrev pub Pair : Type 0
Pair = ℕ × Value

abbrev pub ViewMap : Type 0
ViewMap = FinMap nat_cmp Pair

abbrev pub value_code : Coded Value
value_code = code_by (List ℕ × (ℕ × (Bool × NatSet))) (coded× (coded_list coded_ℕ) (coded× coded_ℕ (coded× coded_bool set_code)))
    (λ v. (v.text, (v.max, (v.flag, v.set)))) (λ p. record { text = p.0; max = p.1.0; flag = p.1.1.0; set = p.1.1.1 }) (λ _. refl)

abbrev pub view_code : Coded ViewMap
view_code = code coded_ℕ (coded× coded_ℕ value_code)

-- a row is an entry of the map, and an entry is a row
abbrev pub entry_of : Row → ℕ × Pair
entry_of row = (row.node, (row.number, row.value))

abbrev pub row_of : ℕ × Pair → Row
row_of e = record { node = e.0; number = e.1.0; value = e.1.1 }

abbrev pub entries_of : List Row → List (ℕ × Pair)
entries_of rows = map entry_of rows

-- the rows of a view, by ascending node
abbrev pub rows_of : ViewMap → List Row
rows_of v = map row_of (entries v)

-- the view of one row
abbrev pub single : Row → ViewMap
single row = from_entries (entry_of row ∷ [])

-- of two pairs of one node the right one where its number is greater, else the left one
abbrev pub newer : Pair → Pair → Pair
newer left right = if nat_lt left.0 right.0 then right else left

abbrev pub newest : Option Pair → Pair → Pair
newest None right = right
newest (Some left) right = newer left right

-- the entries with one more row, or the newer of two for its node
abbrev pub absorbed : List (ℕ × Pair) → Row → List (ℕ × Pair)
absorbed es row = put nat_cmp row.node (newest (find nat_cmp row.node es) (row.number, row.value)) es

abbrev pub absorbed_all : List (ℕ × Pair) → List Row → List (ℕ × Pair)
absorbed_all es [] = es
absorbed_all es (row ∷ rows) = absorbed_all (absorbed es row) rows
