-- A text of any bytes as JSON has it, whose texts are UTF-8.
--     plain_of bytes         the text itself, where it is UTF-8
--     base64_of bytes        its bytes in base64, where it isn't
use Rattle.std.specs.Prelude.{ℕ, List, Option, Some, None, if◌then◌else◌}
use Rattle.std.specs.Str.{is_utf8}
use Rattle.base64.specs.Engines.{standard}
use Rattle.base64.specs.GeneralPurpose.{encode_of}

abbrev pub plain_of : List ℕ → Option (List ℕ)
plain_of bytes = if is_utf8 bytes then Some bytes else None

abbrev pub base64_of : List ℕ → Option (List ℕ)
base64_of bytes = if is_utf8 bytes then None else Some (encode_of standard bytes)
