-- An array of JSON, element by element.
--     glue                  what stands before the next element: a comma, once there is one
--     inside                the elements, with a comma between two
--     glue_more, more       what one more element adds
--     whole_numbers, whole_rows      between brackets they are the whole array
use Rattle.std.proofs.Common.{◌≡◌, ℕ, List, [], ◌∷◌, ◌++◌, refl, ap, sym, ◌∙◌, append_assoc, append-nil}
use Rattle.std.specs.Fmt.{decimal}
use Rattle.std.specs.List.{flat_map}
use Rattle.std.proofs.lemmas.List.{flat_map_more}
use Rattle.cc_views.specs.declared.row.Row.{Row}
use Rattle.cc_web.specs.Json.{later_number, later_row, numbers_json, row_json, rows_json}

abbrev pub glue : {X : Type 0} → List X → List ℕ
glue [] = []
glue (x ∷ xs) = 44 ∷ []

pub glue_more : {X : Type 0} (xs : List X) (x : X) → 44 ∷ [] ≡ glue (xs ++ x ∷ [])
glue_more [] x = refl
glue_more (y ∷ ys) x = refl

abbrev pub inside : {X : Type 0} → (X → List ℕ) → List X → List ℕ
inside f [] = []
inside f (x ∷ xs) = f x ++ flat_map (λ y. 44 ∷ f y) xs

pub more : {X : Type 0} (f : X → List ℕ) (xs : List X) (x : X) → inside f xs ++ (glue xs ++ f x) ≡ inside f (xs ++ x ∷ [])
more f [] x = sym (append-nil (f x))
more f (y ∷ ys) x = flat_map_more (λ z. 44 ∷ f z) (f y) ys x

abbrev pub number_json : ℕ → List ℕ
number_json n = 34 ∷ (decimal n ++ 34 ∷ [])

pub whole_numbers : (ns : List ℕ) → 91 ∷ (inside number_json ns ++ 93 ∷ []) ≡ numbers_json ns
whole_numbers [] = refl
whole_numbers (n ∷ ns) =
    ap (λ (ys : List ℕ). 91 ∷ ys) (append_assoc (number_json n) (flat_map later_number ns) (93 ∷ [])
    ∙ ap (λ (ys : List ℕ). 34 ∷ ys) (append_assoc (decimal n) (34 ∷ []) (flat_map later_number ns ++ 93 ∷ [])))

pub whole_rows : (rs : List Row) → 91 ∷ (inside row_json rs ++ 93 ∷ []) ≡ rows_json rs
whole_rows [] = refl
whole_rows (r ∷ rs) = ap (λ (ys : List ℕ). 91 ∷ ys) (append_assoc (row_json r) (flat_map later_row rs) (93 ∷ []))
