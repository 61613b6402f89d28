-- The names of machines.
--     name_limit        a name has no more bytes
--     host_name         the bytes of a name
--     is_name_byte      a letter, a digit, `-`, `.` or `_`
--     last_label        what follows the last dot, and all where there is none
--     IsHostName        up to 253 such bytes, and not digits alone behind the last dot
use Rattle.std.specs.Prelude.{◌≡◌, ◌≤◌, ◌==◌, ◌||◌, ℕ, Bool, true, false, List, [], ◌∷◌, length, take, if◌then◌else◌}
use Rattle.std.specs.List.{list_all, list_any}
use Rattle.std.specs.Char.{is_ascii_digit, is_ascii_alphanumeric}
use Rattle.cc_connections.specs.declared.hosts.HostName.{HostName}

abbrev pub name_limit : ℕ
name_limit = 253

abbrev pub host_name : HostName → List ℕ
host_name n = take n.len n.bytes

abbrev pub is_name_byte : ℕ → Bool
is_name_byte b = is_ascii_alphanumeric b || (b == 45) || (b == 46) || (b == 95)

abbrev pub last_label : List ℕ → List ℕ
last_label [] = []
last_label (b ∷ bs) = if list_any (λ c. c == 46) (b ∷ bs) then last_label bs else b ∷ bs

-- Of no byte all are digits: a name isn't empty, nor does it end in a dot.
pub record IsHostName (name : List ℕ) : Type 0 where
  pub fits : length name ≤ name_limit
  pub bytes : list_all is_name_byte name ≡ true
  pub named : list_all is_ascii_digit (last_label name) ≡ false
