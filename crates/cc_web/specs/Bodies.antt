-- What a body says.
use Rattle.std.specs.Prelude.{ℕ, ◌==◌, Bool, true, ◌||◌, List, length, map, Option, Some, None, Result, Err, nat_lt, codes, if◌then◌else◌}
use Rattle.std.specs.List.{before_first}
use Rattle.std.specs.Char.{to_ascii_lowercase}
use Rattle.std.specs.Option.{option_map, ok_or}
use Rattle.cc_views.specs.Limits.{text_limit}
use Rattle.cc_messages.specs.declared.command.Command.{Command}
use Rattle.cc_messages.specs.declared.command.Command.TheVariants as command
use Rattle.cc_web.specs.Words.{is_text, number_in}
use Rattle.cc_web.specs.declared.call.Write.{Write}
use Rattle.cc_web.specs.declared.call.Write.TheVariants as write
use Rattle.cc_web.specs.declared.fault.WebFault.{WebFault}
use Rattle.cc_web.specs.declared.fault.WebFault.TheVariants as fault

-- the type without its parameters
unfoldable pub essence : List ℕ → List ℕ
essence value = map to_ascii_lowercase (before_first (λ b. b == 32) (before_first (λ b. b == 59) value))

-- types that say nothing of a body, and what curl says of each
unfoldable pub is_plain : Option (List ℕ) → Bool
is_plain None = true
is_plain (Some value) =
    is_text (codes "text/plain") (essence value) || is_text (codes "application/octet-stream") (essence value)
    || is_text (codes "application/x-www-form-urlencoded") (essence value)

-- how many bytes it has at most: those of a text, the digits of a number of 64 or 32 bits, or none
abbrev pub most_bytes : Write → ℕ
most_bytes write.Text = text_limit
most_bytes write.Max = 20
most_bytes write.Flag = 0
most_bytes write.Member = 10

abbrev pub command_in : Write → List ℕ → Option Command
command_in write.Text body = if length body == 0 then None else Some (command.Store body)
command_in write.Max body = option_map (λ n. command.WriteMax n) (number_in 64 body)
command_in write.Flag body = Some command.SetFlag
command_in write.Member body = option_map (λ n. command.AddMember n) (number_in 32 body)

unfoldable pub written_in : Write → List ℕ → Result Command WebFault
written_in what body =
    if nat_lt (most_bytes what) (length body) then Err fault.TooLong else ok_or (command_in what body) fault.Body
