-- For how long one operation has been pending.
--     is_same, lasts_after     whether two asks are one;  for how long one has been pending once a second has passed
use Rattle.std.specs.Prelude.{◌+◌, ◌==◌, ◌&&◌, nat_le, min, Bool, false, Option, Some, None, if◌then◌else◌}
use Rattle.cc_policies.specs.Absence.{long}
use Rattle.cc_policies.specs.declared.slow_operation.AskName.{AskName}
use Rattle.cc_policies.specs.declared.slow_operation.SlowOperation.{SlowOperation}

abbrev pub nothing_lasts : SlowOperation
nothing_lasts = record { asked = None; seconds = 0 }

abbrev pub is_same : AskName → Option AskName → Bool
is_same a None = false
is_same a (Some b) = (a.session == b.session) && (a.request == b.request)

-- a phase that begins anew is no other operation: it is known by its ask
abbrev pub lasts_after : SlowOperation → Option AskName → SlowOperation
lasts_after l None = nothing_lasts
lasts_after l (Some a) = record { asked = Some a; seconds = if is_same a l.asked then min (l.seconds + 1) long else 0 }

abbrev pub is_long : SlowOperation → Bool
is_long l = nat_le long l.seconds
