-- Sessions and requests of a client's own.
use Rattle.std.specs.Prelude.{ℕ, ◌+◌, ◌-◌, ◌^◌, ◌==◌, Bool, ◌||◌, List, length, drop, Option, Some, None, Result, Ok, Err, nat_lt, if◌then◌else◌}
use Rattle.std.specs.List.{before_first}
use Rattle.std.specs.Option.{option_and_then}
use Rattle.cc_web.specs.Words.{number_in}
use Rattle.cc_web.specs.declared.fault.WebFault.{WebFault}
use Rattle.cc_web.specs.declared.fault.WebFault.TheVariants as fault
use Rattle.cc_web.specs.declared.key.AskKey.{AskKey}

-- the last sessions that there are belong to the node
abbrev pub is_own : ℕ → ℕ → Bool
is_own session own_sessions = nat_lt (2 ^ 64 - 1 - session) own_sessions

abbrev pub key_of : ℕ → ℕ → Option AskKey
key_of session request = if (session == 0) || (request == 0) then None else Some (record { session = session; request = request })

-- a session, a slash and a request
abbrev pub key_spelled : List ℕ → Option AskKey
key_spelled word =
    let front = before_first (λ b. b == 47) word in
    if length front == length word then None else
    option_and_then (λ session. option_and_then (key_of session) (number_in 64 (drop (length front + 1) word))) (number_in 64 front)

-- of the client's own
abbrev pub allowed_key : ℕ → Option AskKey → Result (Option AskKey) WebFault
allowed_key own_sessions None = Err fault.Key
allowed_key own_sessions (Some key) = if is_own key.session own_sessions then Err fault.OwnSession else Ok (Some key)

unfoldable pub key_in : Option (List ℕ) → ℕ → Bool → Result (Option AskKey) WebFault
key_in None own_sessions is_one_ask = Ok None
key_in (Some word) own_sessions is_one_ask =
    if is_one_ask then allowed_key own_sessions (key_spelled word) else Err fault.Key
