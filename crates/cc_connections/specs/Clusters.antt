-- The names of clusters.
--     bad_byte           the first byte that stands in no name
--     name_in            the name that a text is, or why it is none
--     IsClusterName      up to 64 letters, digits, `-`, `.` and `_`
use Rattle.std.specs.Prelude.{◌≡◌, ◌≤◌, ℕ, true, not, List, length, find, nat_lt, Option, Some, None, Result, Ok, Err, if◌then◌else◌}
use Rattle.std.specs.List.{list_all}
use Rattle.cc_connections.specs.declared.clusters.NameFault.{NameFault}
use Rattle.cc_connections.specs.declared.clusters.NameFault.TheVariants.{TooLong, BadByte}
use Rattle.cc_connections.specs.Hosts.{is_name_byte}

abbrev pub cluster_limit : ℕ
cluster_limit = 64

abbrev pub bad_byte : List ℕ → Option ℕ
bad_byte text = find (λ b. not (is_name_byte b)) text

abbrev pub name_unless : List ℕ → Option ℕ → Result (List ℕ) NameFault
name_unless text None = Ok text
name_unless text (Some byte) = Err (BadByte byte)

abbrev pub name_in : List ℕ → Result (List ℕ) NameFault
name_in text = if nat_lt cluster_limit (length text) then Err TooLong else name_unless text (bad_byte text)

-- Of no byte it is the name of a cluster that has none.
pub record IsClusterName (name : List ℕ) : Type 0 where
  pub fits : length name ≤ cluster_limit
  pub bytes : list_all is_name_byte name ≡ true
