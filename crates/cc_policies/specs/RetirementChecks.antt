-- Which retirements the server of a node doesn't hand to it.
--     objection_to     why a node that serves as `me` isn't told that a node is retired, if there is a reason
use Rattle.std.specs.Prelude.{ℕ, ◌==◌, ◌&&◌, not, Bool, Option, Some, None, if◌then◌else◌}
use Rattle.cc_policies.specs.declared.operator_outcome.Objection.{Objection}
use Rattle.cc_policies.specs.declared.operator_outcome.Objection.TheVariants as objection

-- a node that retires itself has left for good: `leave` is what says so on purpose. One that retires another only if it is silent
-- leaves one that isn't as it is.
abbrev pub objection_to : ℕ → ℕ → Bool → Bool → Option Objection
objection_to me node has_to_be_silent is_silent =
    if node == me then Some objection.Itself else (if has_to_be_silent && not is_silent then Some objection.Alive else None)
