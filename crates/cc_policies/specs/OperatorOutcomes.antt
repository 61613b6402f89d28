-- What the operator's request came to, which is sent twice over one connection, and behind a retirement a probe: an ask
-- under number 0, which a node refuses as Left only where it has left itself.
--     objection_number, objection_told     the number of an objection, and the objection with that number
--     objection_frame  the frame that tells it
--     outcome_told     as the refusal says that came back: none but Left is of the first of the two
--     outcome_numbered     the same, where it may be an objection
--     outcome_in       as a frame says, if it is about that request
--     probe_frame      the probe
--     clue_in          what a frame tells of a retirement
--     retirement_after, verdict_after     what is known after a frame, and what the retirement came to, where it is known
--     verdict_at_end   the same where the connection ends
--     verdict_along    the same along the frames that come
--     told_of          what a node tells of a retirement that comes twice, and of the probe behind it
use Rattle.std.specs.Prelude.{ℕ, ◌==◌, ◌&&◌, Bool, true, false, List, [], ◌∷◌, ◌++◌, Option, Some, None, if◌then◌else◌}
use Rattle.cc_connections.specs.declared.frame.Frame.{Frame}
use Rattle.cc_connections.specs.declared.frame.Frame.TheVariants as frame
use Rattle.cc_messages.specs.declared.refusal.Refusal.{Refusal}
use Rattle.cc_messages.specs.declared.refusal.Refusal.TheVariants as refusal
use Rattle.cc_messages.specs.declared.command.Command.TheVariants as commands
use Rattle.cc_messages.specs.declared.event.Event.{Event}
use Rattle.cc_messages.specs.declared.event.Event.TheVariants as event
use Rattle.cc_node.specs.Core.{Core, next}
use Rattle.cc_node.specs.Refusals.{decides}
use Rattle.cc_policies.specs.Clients.{refusal_told}
use Rattle.cc_policies.specs.Frames.{refusal_frame}
use Rattle.cc_policies.specs.declared.operator_outcome.Clue.{Clue}
use Rattle.cc_policies.specs.declared.operator_outcome.Clue.TheVariants as clue
use Rattle.cc_policies.specs.declared.operator_outcome.Lefts.{Lefts}
use Rattle.cc_policies.specs.declared.operator_outcome.Lefts.TheVariants as lefts
use Rattle.cc_policies.specs.declared.operator_outcome.Retirement.{Retirement}
use Rattle.cc_policies.specs.declared.operator_outcome.Objection.{Objection}
use Rattle.cc_policies.specs.declared.operator_outcome.Objection.TheVariants as objection
use Rattle.cc_policies.specs.declared.operator_outcome.Outcome.{Outcome}
use Rattle.cc_policies.specs.declared.operator_outcome.Outcome.TheVariants as outcome

-- beyond the numbers of refusals, which stand for what a node itself refuses
abbrev pub objection_number : Objection → ℕ
objection_number objection.Itself = 32
objection_number objection.Alive = 33

abbrev pub objection_told : ℕ → Option Objection
objection_told number = if number == 32 then Some objection.Itself else (if number == 33 then Some objection.Alive else None)

abbrev pub objection_frame : Objection → Frame
objection_frame why = frame.Refused 0 0 (objection_number why) 0

abbrev pub outcome_told : Option Refusal → Option Outcome
outcome_told None = None
outcome_told (Some refusal.Left) = Some outcome.Done
outcome_told (Some why) = Some (outcome.Refused why)

abbrev pub outcome_numbered : Option Objection → Option Refusal → Option Outcome
outcome_numbered (Some why) told = Some (outcome.Objected why)
outcome_numbered None told = outcome_told told

abbrev pub outcome_in : Frame → Option Outcome
outcome_in (frame.Refused session request number value) = if (session == 0) && (request == 0) then outcome_numbered (objection_told number) (refusal_told number value) else None
outcome_in _ = None

-- ---- a retirement

-- no other client has it
abbrev pub probe_session : ℕ
probe_session = 18446744073709551615

abbrev pub probe_frame : Frame
probe_frame = frame.Ask probe_session 0 commands.ReadFlag

-- of the requests Left says no more than that the node to retire has left, or the one that is asked
abbrev pub request_clue : Option Outcome → Clue
request_clue None = clue.Nothing
request_clue (Some outcome.Done) = clue.Left
request_clue (Some why) = clue.Decided why

abbrev pub probe_clue : Option Refusal → Clue
probe_clue None = clue.Nothing
probe_clue (Some refusal.Left) = clue.Decided (outcome.Refused refusal.Left)
probe_clue (Some why) = clue.There

abbrev pub clue_of : ℕ → ℕ → ℕ → ℕ → Clue
clue_of session request number value =
    if (session == 0) && (request == 0) then request_clue (outcome_numbered (objection_told number) (refusal_told number value))
    else (if (session == probe_session) && (request == 0) then probe_clue (refusal_told number value) else clue.Nothing)

abbrev pub clue_in : Frame → Clue
clue_in (frame.Refused session request number value) = clue_of session request number value
clue_in _ = clue.Nothing

abbrev pub nothing_heard : Retirement
nothing_heard = record { lefts = lefts.Neither; is_there = false }

abbrev pub one_more : Lefts → Lefts
one_more lefts.Neither = lefts.One
one_more lefts.One = lefts.Both
one_more lefts.Both = lefts.Both

abbrev pub after_clue : Retirement → Clue → Retirement
after_clue r clue.Left = record r { lefts = one_more r.lefts }
after_clue r clue.There = record r { is_there = true }
after_clue r (clue.Decided why) = r
after_clue r clue.Nothing = r

-- of the two requests the second at least was refused as Left, by a node that hasn't left
abbrev pub settled : Lefts → Bool → Option Outcome
settled lefts.Neither is_there = None
settled lefts.One is_there = if is_there then Some outcome.Done else None
settled lefts.Both is_there = if is_there then Some outcome.Done else None

abbrev pub verdict_of : Retirement → Clue → Option Outcome
verdict_of r (clue.Decided why) = Some why
verdict_of r clue.Left = settled r.lefts r.is_there
verdict_of r clue.There = settled r.lefts r.is_there
verdict_of r clue.Nothing = None

abbrev pub retirement_after : Retirement → Frame → Retirement
retirement_after r f = after_clue r (clue_in f)

abbrev pub verdict_after : Retirement → Frame → Option Outcome
verdict_after r f = verdict_of (retirement_after r f) (clue_in f)

-- a place for operators alone hangs up on the probe: one Left is of the second request, where both came that far
abbrev pub ended_with : Lefts → Option Outcome
ended_with lefts.Neither = None
ended_with lefts.One = Some outcome.Done
ended_with lefts.Both = None

abbrev pub verdict_at_end : Retirement → Option Outcome
verdict_at_end r = ended_with r.lefts

abbrev pub first_verdict : Option Outcome → Option Outcome → Option Outcome
first_verdict (Some why) later = Some why
first_verdict None later = later

abbrev pub verdict_along : Retirement → List Frame → Option Outcome
verdict_along r [] = None
verdict_along r (f ∷ fs) = first_verdict (verdict_after r f) (verdict_along (retirement_after r f) fs)

abbrev pub frames_of : Option Frame → List Frame
frames_of None = []
frames_of (Some f) = f ∷ []

abbrev pub frames_told : Option Refusal → Event → List Frame
frames_told None e = []
frames_told (Some why) e = frames_of (refusal_frame e why)

abbrev pub core_after : Core → Event → Option Refusal → Core
core_after c e None = next c e
core_after c e (Some why) = c

abbrev pub probe_event : Event
probe_event = event.Ask probe_session 0 commands.ReadFlag

abbrev pub once_retired : Core → ℕ → Core
once_retired c q = core_after c (event.Retire q) (decides c (event.Retire q))

abbrev pub twice_retired : Core → ℕ → Core
twice_retired c q = once_retired (once_retired c q) q

abbrev pub told_of : Core → ℕ → List Frame
told_of c q =
    frames_told (decides c (event.Retire q)) (event.Retire q)
    ++ frames_told (decides (once_retired c q) (event.Retire q)) (event.Retire q)
    ++ frames_told (decides (twice_retired c q) probe_event) probe_event
