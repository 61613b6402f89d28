-- What may come over a connection, and why an event isn't admitted.
--     Rights         what may come over a connection: by where it comes from, and of what nodes send by who greeted over it
--     may_come       whether an event may come over a connection with these rights
--     with_greeter   the rights once a node greeted over the connection, and was taken
--     IsWhy          that an event was barred only where it may not come, and objected to only where there is an objection
use Rattle.std.specs.Prelude.{◌≡◌, ℕ, Bool, false, ◌&&◌, Option, Some, ⊤}
use Rattle.cc_messages.specs.declared.event.Event.{Event}
use Rattle.cc_policies.specs.declared.operator_outcome.Objection.{Objection}
use Rattle.cc_policies.specs.declared.origin.Access.{Access}
use Rattle.cc_policies.specs.Access.{allows, may_speak}
use Rattle.cc_channels.specs.declared.admission.NotAdmitted.{NotAdmitted}
use Rattle.cc_channels.specs.declared.admission.NotAdmitted.TheVariants as why

-- whether what nodes send needs a greeting, and the node that greeted
pub record Rights : Type 0 where
  pub access : Access
  pub needs_greeting : Bool
  pub greeter : Option ℕ

abbrev pub may_come : Rights → Event → Bool
may_come r e = allows r.access e && may_speak r.greeter r.needs_greeting e

abbrev pub with_greeter : Rights → ℕ → Rights
with_greeter r node = record { access = r.access; needs_greeting = r.needs_greeting; greeter = Some node }

abbrev pub IsWhy : Bool → Option Objection → NotAdmitted → Type 0
IsWhy may_come objection why.Barred = may_come ≡ false
IsWhy may_come objection (why.Objected it) = objection ≡ Some it
IsWhy may_come objection other = ⊤
