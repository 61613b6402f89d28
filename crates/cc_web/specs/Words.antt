-- Words of requests.
--     number_in      the number of so many bits whose plain decimal digits a word is
--     behind         what stands behind a beginning;  before_end what stands before an end
use Rattle.std.specs.Prelude.{ℕ, Bool, ◌-◌, ◌^◌, ◌&&◌, List, bytes_eq, length, take, drop, nat_lt, Option, Some, None, if◌then◌else◌}
use Rattle.std.specs.Fmt.{decimal}
use Rattle.std.specs.Str.Parse.{digits_value}

abbrev pub is_text : List ℕ → List ℕ → Bool
is_text text word = bytes_eq word text

unfoldable pub number_in : ℕ → List ℕ → Option ℕ
number_in bits word =
    let n = digits_value 10 word in
    if is_text (decimal n) word && nat_lt n (2 ^ bits) then Some n else None

abbrev pub behind : List ℕ → List ℕ → Option (List ℕ)
behind front word = if is_text front (take (length front) word) then Some (drop (length front) word) else None

abbrev pub before_end : List ℕ → List ℕ → Option (List ℕ)
before_end end word =
    let kept = length word - length end in
    if is_text end (drop kept word) then Some (take kept word) else None
