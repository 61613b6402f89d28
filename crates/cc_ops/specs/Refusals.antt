-- Why a command can't begin, or the share can't change, as far as the pending operation and the own value say.
--     passes                    whether the own number would pass its limit
--     busy limit, set_full      one reason each; no more than `limit` asks may wait
--     same_share, busy_beyond   why the share can't become another
use Rattle.std.specs.Prelude.{ℕ, Bool, nat_le, nat_lt, not, ◌&&◌, ◌||◌, ◌==◌, length, Option}
use Rattle.std.specs.Bool.{then_some}
use Rattle.cc_views.specs.Limits.{counter_limit}
use Rattle.cc_messages.specs.declared.command.Command.{Command}
use Rattle.cc_messages.specs.declared.refusal.Refusal.{Refusal}
use Rattle.cc_messages.specs.declared.refusal.Refusal.TheVariants as refusal
use Rattle.cc_ops.specs.Commands.{finds_no_room}
use Rattle.cc_ops.specs.Ops.{Ops, is_idle, pending, unanswered, mine_at_last}
use Rattle.cc_ops.specs.WaitingAsks.{has_session}

-- whether the own number, which a round raises by the number of its writes, would be raised past its limit
abbrev pub passes : ℕ → ℕ → Bool
passes before after = nat_lt before after && nat_lt counter_limit after

-- an operation is pending, and as many asks wait as may, or one of the session isn't answered yet
abbrev pub busy : ℕ → ℕ → Ops → Option Refusal
busy limit session s = then_some (not (is_idle s.phase) && (nat_le limit (length s.line) || has_session session (unanswered s))) refusal.Busy

-- of the own value as it will be once all that wait have begun
abbrev pub set_full : Command → Ops → Option Refusal
set_full command s = then_some (finds_no_room (mine_at_last s) command) refusal.SetFull

-- the share is that already
abbrev pub same_share : ℕ → Ops → Option Refusal
same_share share s = then_some (s.share == share) refusal.NothingToAck

-- the pending round has more asks than the share would allow
abbrev pub busy_beyond : ℕ → Ops → Option Refusal
busy_beyond share s = then_some (nat_lt share (length (pending s))) refusal.Busy
