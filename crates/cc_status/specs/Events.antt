-- Events that a server sends, as the text/event-stream of HTML writes them.
use Rattle.std.specs.Prelude.{ℕ, List, [], ◌∷◌, ◌++◌, Bool, ◌||◌, ◌==◌, not, codes, if◌then◌else◌}
use Rattle.std.specs.List.{flat_map, list_all, slice_split}
use Rattle.httparse.specs.Ascii.{line_feed, carriage_return}

-- a byte that ends a line
abbrev pub ends_line : ℕ → Bool
ends_line b = b == line_feed || b == carriage_return

-- the text is one line
abbrev pub is_one_line : List ℕ → Bool
is_one_line text = list_all (λ b. not (ends_line b)) text

-- a line of data
abbrev pub data_line : List ℕ → List ℕ
data_line line = codes "data: " ++ (line ++ codes "\n")

-- an event with that name, whose data is each line of that text
abbrev pub event_spelling : List ℕ → List ℕ → List ℕ
event_spelling name text =
    codes "event: " ++ (name ++ (codes "\n" ++ (flat_map data_line (slice_split ends_line text) ++ codes "\n")))

-- a byte of data as it is written: where a line ends, the next one is begun as data too
abbrev pub data_byte : ℕ → List ℕ
data_byte b = if ends_line b then codes "\ndata: " else b ∷ []

-- the same event, byte by byte
abbrev pub event_by_bytes : List ℕ → List ℕ → List ℕ
event_by_bytes name text =
    codes "event: " ++ (name ++ (codes "\ndata: " ++ (flat_map data_byte text ++ codes "\n\n")))
