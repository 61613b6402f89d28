-- What a worker does once it has the answer to an event.
--     heed_of         what the answer asks for
--     told_of         what a refused ask is told that may repeat a request with another command
--     heed_unstirred  what it does of an accepted event that made no post and no answer
use Rattle.std.specs.Prelude.{ℕ, Bool, true, false, Option, Some, None, Result, Ok, Err, if◌then◌else◌}
use Rattle.cc_messages.specs.declared.event.Event.{Event}
use Rattle.cc_messages.specs.declared.event.Event.TheVariants as event
use Rattle.cc_messages.specs.declared.refusal.Refusal.{Refusal}
use Rattle.cc_messages.specs.declared.refusal.Refusal.TheVariants as refusal
use Rattle.cc_connections.specs.declared.frame.Frame.{Frame}
use Rattle.cc_policies.specs.Frames.{refusal_frame}
use Rattle.cc_policies.specs.declared.response.Duty.{Duty}
use Rattle.cc_policies.specs.declared.response.Duty.TheVariants as duty

-- a message that was heard before is acknowledged again; one that found the queue full is brought again; all others are
-- sent again by their link
abbrev pub heed_undelivered : ℕ → Refusal → Duty
heed_undelivered from (refusal.Old heard) = duty.Reack from
heed_undelivered from refusal.QueueFull = duty.BringAgain
heed_undelivered from _ = duty.Nothing

-- who asked is told why, and nobody else is told anything
abbrev pub refusal_told : Option Frame → Duty
refusal_told None = duty.Nothing
refusal_told (Some frame) = duty.Refuse frame

abbrev pub told : Event → Refusal → Duty
told e why = refusal_told (refusal_frame e why)

-- a repeat with another command is as any number that isn't the session's next one
abbrev pub told_of : ℕ → Bool → Refusal → Refusal
told_of request differs refusal.Repeat = if differs then refusal.Stale request else refusal.Repeat
told_of request differs why = why

-- the last request of a session is answered again
abbrev pub heed_unasked : ℕ → Event → Refusal → Duty
heed_unasked session e refusal.Repeat = duty.Again session
heed_unasked session e why = told e why

abbrev pub heed_refused : Event → Refusal → Bool → Duty
heed_refused (event.Deliver from number m) why differs = heed_undelivered from why
heed_refused (event.Skip from posts) why differs = heed_undelivered from why
heed_refused (event.Ask session request command) why differs = heed_unasked session (event.Ask session request command) (told_of request differs why)
heed_refused e why differs = told e why

-- a lapse makes the room that others wait for, though it makes no post; all others defer with the next batch
abbrev pub heed_unstirred : Event → Duty
heed_unstirred (event.Lapse node) = duty.Wake
heed_unstirred _ = duty.Defer

-- an accepted event that stirs made a post or an answer
abbrev pub heed_of : Event → Result Bool Refusal → Bool → Duty
heed_of e (Ok true) differs = duty.Wake
heed_of e (Ok false) differs = heed_unstirred e
heed_of e (Err why) differs = heed_refused e why differs
