-- JSON, byte by byte (RFC 8259).
--     string_json      a text of UTF-8 as a string
--     numbers_json     numbers as an array of strings
--     text_json        a text of any bytes, under the name that says how it is written
--     row_json, rows_json      a row of a view, and rows as an array
use Rattle.std.specs.Prelude.{ℕ, ◌+◌, ◌/◌, ◌%◌, ◌==◌, Bool, true, false, List, [], ◌∷◌, ◌++◌, nat_lt, codes, if◌then◌else◌}
use Rattle.std.specs.Fmt.{decimal}
use Rattle.std.specs.List.{concat, flat_map}
use Rattle.std.specs.Str.{is_utf8}
use Rattle.base64.specs.Engines.{standard}
use Rattle.base64.specs.GeneralPurpose.{encode_of}
use Rattle.cc_views.specs.NatSets.{items}
use Rattle.cc_views.specs.declared.row.Row.{Row}
use Rattle.cc_views.specs.declared.value.Value.{Value}

abbrev pub hex_digit : ℕ → ℕ
hex_digit n = if nat_lt n 10 then 48 + n else 87 + n

-- a quotation mark, a backslash and the control characters don't stand as they are
abbrev pub escaped : ℕ → List ℕ
escaped b =
    if b == 34 then codes "\\\"" else (
    if b == 92 then codes "\\\\" else (
    if nat_lt b 32 then codes "\\u00" ++ hex_digit (b / 16) ∷ hex_digit (b % 16) ∷ [] else b ∷ []))

abbrev pub string_json : List ℕ → List ℕ
string_json text = codes "\"" ++ (flat_map escaped text ++ codes "\"")

abbrev pub later_number : ℕ → List ℕ
later_number n = concat (codes ",\"" ∷ decimal n ∷ codes "\"" ∷ [])

abbrev pub numbers_json : List ℕ → List ℕ
numbers_json [] = codes "[]"
numbers_json (first ∷ others) = concat (codes "[\"" ∷ decimal first ∷ codes "\"" ∷ flat_map later_number others ∷ codes "]" ∷ [])

abbrev pub base64_json : List ℕ → List ℕ
base64_json text = concat (codes "\"text_base64\":\"" ∷ encode_of standard text ∷ codes "\"" ∷ [])

unfoldable pub text_json : List ℕ → List ℕ
text_json text = if is_utf8 text then codes "\"text\":" ++ string_json text else base64_json text

abbrev pub flag_json : Bool → List ℕ
flag_json true = codes "true"
flag_json false = codes "false"

-- what a row has behind its text
abbrev pub rest_json : Value → List ℕ
rest_json value = concat
    (codes ",\"max\":\"" ∷ decimal value.max ∷ codes "\",\"flag\":" ∷ flag_json value.flag ∷ codes ",\"set\":"
    ∷ numbers_json (items value.set) ∷ codes "}" ∷ [])

abbrev pub row_json : Row → List ℕ
row_json row = concat
    (codes "{\"node\":" ∷ decimal row.node ∷ codes ",\"number\":\"" ∷ decimal row.number ∷ codes "\","
    ∷ text_json row.value.text ∷ rest_json row.value ∷ [])

abbrev pub later_row : Row → List ℕ
later_row row = codes "," ++ row_json row

abbrev pub rows_json : List Row → List ℕ
rows_json [] = codes "[]"
rows_json (first ∷ others) = concat (codes "[" ∷ row_json first ∷ flat_map later_row others ∷ codes "]" ∷ [])
