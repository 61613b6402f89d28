-- The rows of a view make the view.
use Rattle.std.specs.Int.{w16}
use Rattle.std.proofs.lemmas.Bool.{le-ltb}
use Rattle.cc_wire.specs.Readers.{number_at, rows_at, row_list_at, view_at}
use Rattle.std.proofs.Common.{◌≡◌, ◌≤◌, ltb, false, Ok, ℕ, List, [], ◌∷◌, length, map as list_map, refl, sym, ap, ◌∙◌}
use Rattle.std.specs.Ordering.{nat_cmp}
use Rattle.std.specs.FinMap as map
use Rattle.std.proofs.lemmas.List.{length-map}
use Rattle.cc_views.specs.Entries.{entries_back, from_T}
use Rattle.cc_views.specs.Rows.{Pair, ViewMap, row_of, entries_of, rows_of}

pub len-rows_of : (v : ViewMap) → length (rows_of v) ≡ map.len v
len-rows_of v = length-map (map.entries v) row_of ∙ sym (map.len-entries v)

entries_are : (es : List (ℕ × Pair)) → entries_of (list_map row_of es) ≡ es
entries_are [] = refl
entries_are (e ∷ es) = ap (λ (t : List (ℕ × Pair)). e ∷ t) (entries_are es)

pub entries_of_rows : (v : ViewMap) → entries_of (rows_of v) ≡ map.entries v
entries_of_rows v = entries_are (map.entries v)

pub view_of_rows : (v : ViewMap) → map.from_entries {R = nat_cmp} (entries_of (rows_of v)) ≡ v
view_of_rows v = ap (map.from_entries {R = nat_cmp}) (entries_are (map.entries v))
    ∙ map.same_entries_map _ _ (entries_back (map.entries v) (from_T _ (map.entries_sorted v)))

-- a count within its limit, and so many rows
pub view_is_read : (bytes : List ℕ) (count : ℕ) (after : List ℕ) (v : ViewMap) (rest : List ℕ) → number_at w16 bytes ≡ Ok (count, after) → count ≤ 256
    → rows_at count 1 after ≡ Ok (rows_of v, rest)
    → view_at bytes ≡ Ok (v, rest)
unfolding view_at row_list_at
view_is_read bytes count after v rest counted le read =
    let test : ltb 256 count ≡ false = le-ltb 256 count le in
    rw (counted, test, read) (ap (λ (w : ViewMap). Ok (w, rest)) (view_of_rows v))
