-- The lines of an answer's head.
use Rattle.std.specs.Prelude.{ℕ, Bool, true, false, List, [], ◌++◌, codes, decimal}
use Rattle.std.specs.List.{flat_map}
use Rattle.httparse.specs.Ascii.{crlf_bytes}
use Rattle.httparse.specs.Grammar.{Field, print_field}

-- the first one
abbrev pub status_line : List ℕ → List ℕ → List ℕ
status_line digits reason = codes "HTTP/1.1 " ++ (digits ++ (codes " " ++ (reason ++ crlf_bytes)))

-- those of fields
abbrev pub lines : List Field → List ℕ
lines fields = flat_map print_field fields

-- the line that says how many bytes follow
abbrev pub length_lines : Bool → ℕ → List ℕ
length_lines true size = []
length_lines false size = codes "Content-Length: " ++ (decimal size ++ crlf_bytes)
