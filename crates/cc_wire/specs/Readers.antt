-- Reading from left to right, with the first fault that is met. A field is a value and the bytes after it.
use Rattle.std.specs.Prelude.{◌≡◌, ◌≢◌, IfErr, ℕ, zero, suc, ◌+◌, List, [], ◌∷◌, length, take, drop, Bool, true, false, Result, Ok, Err, nat_lt, ◌==◌}
use Rattle.std.specs.Prelude.{if◌then◌else◌}
use Rattle.std.specs.Int.{Width, w16, w32, w64, byte_len, from_be_bytes}
use Rattle.std.specs.FinMap.{from_entries}
use Rattle.cc_views.specs.declared.value.Value.{Value}
use Rattle.cc_views.specs.declared.row.Row.{Row}
use Rattle.cc_views.specs.NatSets.{NatSet, from_list}
use Rattle.cc_views.specs.Rows.{ViewMap, entries_of}
use Rattle.cc_changes.specs.ChangeSets.{ChangeSets}
use Rattle.cc_views.specs.Limits.{known_limit, set_limit, text_limit}
use Rattle.cc_messages.specs.Limits.{list_limit}
use Rattle.cc_messages.specs.Ranges.{Range}
use Rattle.cc_messages.specs.Shares.{is_no_share}
use Rattle.cc_wire.specs.declared.fault.WireFault.{WireFault}
use Rattle.cc_wire.specs.declared.fault.WireFault.TheVariants.{Short, BadKind, NotAscending, TooLarge, Trailing, NoMemory}

infixl 10 ◌>>=◌
abbrev pub ◌>>=◌ : {A B : Type 0} → Result A WireFault → (A → Result B WireFault) → Result B WireFault
(Ok x) >>= f = f x
(Err e) >>= f = Err e

-- What a function returned, seen by `view`, is what reading gives, unless memory ran out.
abbrev pub Fails : {Y : Type 0} → WireFault → Result Y WireFault → Type 0
Fails NoMemory read = Unit {0}
Fails e read = read ≡ Err e

abbrev pub Gives : {X Y : Type 0} → (X → Y) → Result X WireFault → Result Y WireFault → Type 0
Gives view (Ok x) read = read ≡ Ok (view x)
Gives view (Err e) read = Fails e read

-- A function that takes no memory never answers that there is none.
abbrev pub TakesNoMemory : {Y : Type 0} → Result Y WireFault → Type 0
TakesNoMemory result = IfErr result (λ e. e ≢ NoMemory)

abbrev pub Reading : Type 0 → Type 0
Reading X = List ℕ → Result (X × List ℕ) WireFault

-- ---- one field after another

infixr 20 ◌⊗◌
abbrev pub ◌⊗◌ : {A B : Type 0} → Reading A → Reading B → Reading (A × B)
(first ⊗ second) bytes = first bytes >>= λ a. second a.1 >>= λ b. Ok ((a.0, b.0), b.1)

-- the value that the fields make
abbrev pub via : {A B : Type 0} → (A → B) → Reading A → Reading B
via make fields bytes = fields bytes >>= λ a. Ok (make a.0, a.1)

-- a kind that has no fields
abbrev pub nothing_at : Reading (Unit {0})
nothing_at bytes = Ok (tt, bytes)

-- ---- fields

abbrev pub byte_at : Reading ℕ
byte_at [] = Err Short
byte_at (byte ∷ rest) = Ok (byte, rest)

-- a kind, and then its fields
abbrev pub kinded : {X : Type 0} → (ℕ → Reading X) → Reading X
kinded fields bytes = byte_at bytes >>= λ kind. fields kind.0 kind.1

-- that many bytes
abbrev pub bytes_at : ℕ → Reading (List ℕ)
bytes_at count bytes = if nat_lt (length bytes) count then Err Short else Ok (take count bytes, drop count bytes)

abbrev pub number_at : Width → Reading ℕ
number_at w = via (from_be_bytes w) (bytes_at (byte_len w))

-- a length or a count
abbrev pub limited : ℕ → Reading ℕ → Reading ℕ
limited limit count bytes = count bytes >>= λ n. if nat_lt limit n.0 then Err TooLarge else Ok n

-- an id or a number of a list
unfoldable pub number_from : ℕ → Reading ℕ
number_from least bytes = number_at w32 bytes >>= λ n. if nat_lt n.0 least then Err NotAscending else Ok n

-- a number of eight bytes that is at least so much
unfoldable pub wide_from : ℕ → Reading ℕ
wide_from least bytes = number_at w64 bytes >>= λ n. if nat_lt n.0 least then Err NotAscending else Ok n

abbrev pub range_with : ℕ × ℕ → Range
range_with f = record { first = f.0; last = f.1 }

-- two numbers that aren't 0, of which the second isn't the lesser one
unfoldable pub range_at : Reading Range
range_at = via range_with (λ bytes. (wide_from 1 ⊗ number_at w64) bytes >>= λ f. if nat_lt f.0.1 f.0.0 then Err NotAscending else Ok f)

-- a byte that is the share of a round
unfoldable pub ask_share_at : Reading ℕ
ask_share_at bytes = byte_at bytes >>= λ n. if is_no_share n.0 then Err (BadKind n.0) else Ok n

abbrev pub flag_with : ℕ × List ℕ → Result (Bool × List ℕ) WireFault
flag_with (zero, rest) = Ok (false, rest)
flag_with (suc zero, rest) = Ok (true, rest)
flag_with (suc (suc byte), rest) = Err (BadKind (suc (suc byte)))

unfoldable pub flag_at : Reading Bool
flag_at bytes = byte_at bytes >>= flag_with

unfoldable pub text_at : Reading (List ℕ)
text_at bytes = limited text_limit byte_at bytes >>= λ n. bytes_at n.0 n.1

-- so many items whose keys rise, from `least` on
unfoldable pub items_at : {X : Type 0} → (ℕ → Reading X) → (X → ℕ) → ℕ → ℕ → Reading (List X)
items_at item key zero least bytes = Ok ([], bytes)
items_at item key (suc count) least bytes =
    item least bytes >>= λ first. items_at item key count (key first.0 + 1) first.1 >>= λ others. Ok (first.0 ∷ others.0, others.1)

abbrev pub numbers_at : ℕ → ℕ → Reading (List ℕ)
numbers_at = items_at number_from (λ n. n)

-- a count within its limit, and so many numbers
unfoldable pub listed_at : Reading ℕ → ℕ → ℕ → Reading (List ℕ)
listed_at count limit least bytes = limited limit count bytes >>= λ n. numbers_at n.0 least n.1

unfoldable pub number_set_at : Reading NatSet
number_set_at = via from_list (listed_at byte_at set_limit 0)

unfoldable pub number_list_at : Reading NatSet
number_list_at = via from_list (listed_at (number_at w16) list_limit 0)

abbrev pub value_with : List ℕ × (ℕ × (Bool × NatSet)) → Value
value_with f = record { text = f.0; max = f.1.0; flag = f.1.1.0; set = f.1.1.1 }

unfoldable pub value_at : Reading Value
value_at = via value_with (text_at ⊗ number_at w64 ⊗ flag_at ⊗ number_set_at)

abbrev pub row_with : ℕ × (ℕ × Value) → Row
row_with f = record { node = f.0; number = f.1.0; value = f.1.1 }

unfoldable pub row_at : ℕ → Reading Row
row_at least = via row_with (number_from least ⊗ number_at w64 ⊗ value_at)

abbrev pub rows_at : ℕ → ℕ → Reading (List Row)
rows_at = items_at row_at (λ row. row.node)

unfoldable pub row_list_at : Reading (List Row)
row_list_at bytes = limited known_limit (number_at w16) bytes >>= λ n. rows_at n.0 1 n.1

abbrev pub view_with : List Row → ViewMap
view_with rows = from_entries (entries_of rows)

unfoldable pub view_at : Reading ViewMap
view_at = via view_with row_list_at

unfoldable pub id_set_at : Reading NatSet
id_set_at = via from_list (listed_at (number_at w16) known_limit 1)

abbrev pub changes_with : NatSet × (NatSet × NatSet) → ChangeSets
changes_with f = record { entered = f.0; joined = f.1.0; left = f.1.1 }

unfoldable pub changes_at : Reading ChangeSets
changes_at = via changes_with (id_set_at ⊗ id_set_at ⊗ id_set_at)

-- ---- all of the bytes

unfoldable pub ended : List ℕ → Result (Unit {0}) WireFault
ended rest = if length rest == 0 then Ok tt else Err Trailing

unfoldable pub whole : {X : Type 0} → Reading X → List ℕ → Result X WireFault
whole read bytes = read bytes >>= λ x. ended x.1 >>= λ _. Ok x.0
