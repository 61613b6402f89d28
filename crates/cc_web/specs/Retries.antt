-- When a refused ask is asked again.
use Rattle.std.specs.Prelude.{ℕ, Bool, true, false, ◌&&◌, nat_lt, min, if◌then◌else◌}
use Rattle.cc_messages.specs.declared.refusal.Refusal.{Refusal}
use Rattle.cc_messages.specs.declared.refusal.Refusal.TheVariants as refusal
use Rattle.cc_web.specs.declared.problem.Problem.TheVariants as problem
use Rattle.cc_web.specs.declared.retry.Next.{Next}
use Rattle.cc_web.specs.declared.retry.Next.TheVariants as next

-- the same ask may be accepted a little later
abbrev pub passes : Refusal → Bool
passes refusal.NotEntered = true
passes refusal.NotJoined = true
passes refusal.Busy = true
passes refusal.OutboxFull = true
passes refusal.QueueFull = true
passes _ = false

-- in milliseconds
abbrev pub pause : ℕ
pause = 20

-- of one that was accepted before only the answer is missing
abbrev pub after_refusal : Refusal → ℕ → Next
after_refusal refusal.Repeat left = if nat_lt 0 left then next.Wait else next.End (problem.Refused refusal.Repeat)
after_refusal why left = if passes why && nat_lt 0 left then next.Again (min left pause) else next.End (problem.Refused why)
