-- Why a node can't enter, leave, hear, be asked or retire another, as far as its own coming and going says, and whose it
-- knows of.
--     left, already_entered, not_entered, not_joined      one reason each
use Rattle.std.specs.Prelude.{ℕ, not, Option}
use Rattle.std.specs.Bool.{then_some}
use Rattle.cc_messages.specs.declared.refusal.Refusal.{Refusal}
use Rattle.cc_messages.specs.declared.refusal.Refusal.TheVariants as refusal
use Rattle.cc_churn.specs.Churn.{Churn, has_entered, has_joined, has_left}

abbrev pub left : ℕ → Churn → Option Refusal
left me s = then_some (has_left me s) refusal.Left

abbrev pub already_entered : ℕ → Churn → Option Refusal
already_entered me s = then_some (has_entered me s) refusal.AlreadyEntered

abbrev pub not_entered : ℕ → Churn → Option Refusal
not_entered me s = then_some (not (has_entered me s)) refusal.NotEntered

abbrev pub not_joined : ℕ → Churn → Option Refusal
not_joined me s = then_some (not (has_joined me s)) refusal.NotJoined
