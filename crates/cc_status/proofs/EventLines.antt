-- The lines of an event's data, written byte by byte.
use Rattle.std.proofs.Common.{◌≡◌, ℕ, List, [], ◌∷◌, ◌++◌, true, false, cond, refl, sym, ◌∙◌, ap, append_assoc, codes}
use Rattle.std.specs.List.{flat_map, slice_split, onto_first}
use Rattle.cc_status.specs.Events.{ends_line, data_line, data_byte, event_spelling, event_by_bytes}

-- lines of which the first one has its name already
abbrev named_lines : List (List ℕ) → List ℕ
named_lines [] = codes "\n"
named_lines (line ∷ lines) = line ++ (codes "\n" ++ flat_map data_line lines)

at_first : (line : List ℕ) (lines : List (List ℕ))
    → flat_map data_line (line ∷ lines) ≡ codes "data: " ++ named_lines (line ∷ lines)
at_first line lines = ap (λ text. codes "data: " ++ text) (append_assoc line (codes "\n") (flat_map data_line lines))

at_grown : (b : ℕ) (lines : List (List ℕ))
    → flat_map data_line (onto_first b lines) ≡ codes "data: " ++ named_lines (onto_first b lines)
at_grown b [] = at_first (b ∷ []) []
at_grown b (line ∷ lines) = at_first (b ∷ line) lines

grown : (b : ℕ) (lines : List (List ℕ)) → named_lines (onto_first b lines) ≡ b ∷ named_lines lines
grown b [] = refl
grown b (line ∷ lines) = refl

first_named : (text : List ℕ)
    → flat_map data_line (slice_split ends_line text) ≡ codes "data: " ++ named_lines (slice_split ends_line text)
first_named [] = refl
first_named (b ∷ text) =
    let parts = slice_split ends_line text in
    elim (ends_line b) as (λ t. flat_map data_line (cond t ([] ∷ parts) (onto_first b parts)) ≡ codes "data: "
    ++ named_lines (cond t ([] ∷ parts) (onto_first b parts)))
    [ true ↦ at_first [] parts | false ↦ at_grown b parts ]

by_bytes : (text : List ℕ) → flat_map data_byte text ++ codes "\n" ≡ named_lines (slice_split ends_line text)
by_bytes [] = refl
by_bytes (b ∷ text) =
    let parts = slice_split ends_line text in
    let rest = flat_map data_byte text in
    elim (ends_line b) as (λ t. (cond t (codes "\ndata: ") (b ∷ []) ++ rest) ++ codes "\n" ≡ named_lines (cond t ([] ∷ parts) (onto_first b parts))) [
      | true ↦ ap (λ more. codes "\ndata: " ++ more) (by_bytes text) ∙ ap (λ more. codes "\n" ++ more) (sym (first_named text))
      | false ↦ ap (λ more. b ∷ more) (by_bytes text) ∙ sym (grown b parts)
    ]

pub event-by-bytes : (name text : List ℕ) → event_by_bytes name text ≡ event_spelling name text
event-by-bytes name text =
    ap (λ more. codes "event: " ++ (name ++ (codes "\ndata: " ++ more))) (sym (append_assoc (flat_map data_byte text) (codes "\n") (codes "\n")))
    ∙ ap (λ more. codes "event: " ++ (name ++ (codes "\ndata: " ++ (more ++ codes "\n")))) (by_bytes text)
    ∙ ap (λ more. codes "event: " ++ (name ++ (codes "\n" ++ (more ++ codes "\n")))) (sym (first_named text))
