-- How long a request may take, in milliseconds.
use Rattle.std.specs.Prelude.{ℕ, ◌*◌, ◌^◌, ◌&&◌, List, Option, Some, None, Result, Ok, Err, nat_lt, nat_le, codes, if◌then◌else◌}
use Rattle.std.specs.Option.{option_and_then}
use Rattle.cc_web.specs.Words.{behind, before_end, number_in}
use Rattle.cc_web.specs.declared.fault.WebFault.{WebFault}
use Rattle.cc_web.specs.declared.fault.WebFault.TheVariants as fault

abbrev pub usual_timeout : ℕ
usual_timeout = 10000

abbrev pub most_timeout : ℕ
most_timeout = 60000

abbrev pub in_seconds : ℕ → Option ℕ
in_seconds seconds = if nat_lt (seconds * 1000) (2 ^ 64) then Some (seconds * 1000) else None

-- of a word that doesn't end with `ms`
abbrev pub seconds_in : List ℕ → Option ℕ
seconds_in word = option_and_then in_seconds (option_and_then (number_in 64) (before_end (codes "s") word))

abbrev pub millis_or : List ℕ → Option (List ℕ) → Option ℕ
millis_or word (Some digits) = number_in 64 digits
millis_or word None = seconds_in word

abbrev pub duration_in : List ℕ → Option ℕ
duration_in word = millis_or word (before_end (codes "ms") word)

abbrev pub allowed_timeout : Option ℕ → Result ℕ WebFault
allowed_timeout None = Err fault.Query
allowed_timeout (Some millis) = if nat_lt 0 millis && nat_le millis most_timeout then Ok millis else Err fault.Query

unfoldable pub timeout_in : Option (List ℕ) → Result ℕ WebFault
timeout_in None = Ok usual_timeout
timeout_in (Some query) = allowed_timeout (option_and_then duration_in (behind (codes "timeout=") query))
