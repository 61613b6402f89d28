-- What a frame brings, and which frame an output or a refusal is.
--     event_in           the event that a frame is; none where a node only sends such frames, nor of a greeting
--     output_frame       an output, as the frame of the node that sends it
--     due_spelling       what is written to a peer once a post was put for it
--     refusing           the frame that tells a client why its request was refused
--     refusal_frame      what a connection is told of a refused event, if anything
use Rattle.std.specs.Prelude.{ℕ, List, [], ◌++◌, Option, Some, None, if◌then◌else◌}
use Rattle.cc_messages.specs.Refusals.{number_of, value_of}
use Rattle.cc_messages.specs.Ranges.{Range}
use Rattle.cc_messages.specs.declared.message.Message.{Message}
use Rattle.cc_connections.specs.Frames.{frame_spelling}
use Rattle.cc_policies.specs.declared.withheld.Due.{Due}
use Rattle.cc_messages.specs.declared.event.Event.{Event}
use Rattle.cc_messages.specs.declared.event.Event.TheVariants as event
use Rattle.cc_connections.specs.declared.frame.Frame.{Frame}
use Rattle.cc_connections.specs.declared.frame.Frame.TheVariants as frame
use Rattle.cc_messages.specs.declared.output.Output.{Output}
use Rattle.cc_messages.specs.declared.output.Output.TheVariants as output
use Rattle.cc_messages.specs.declared.refusal.Refusal.{Refusal}

abbrev pub event_in : Frame → Option Event
event_in (frame.Post from number message) = Some (event.Deliver from number message)
event_in (frame.Ack from number) = Some (event.Acked from number)
event_in (frame.Ask session request command) = Some (event.Ask session request command)
event_in (frame.Reply session request answer) = None
event_in (frame.Refused session request refusal value) = None
event_in frame.Leave = Some event.Leave
event_in (frame.Retire node) = Some (event.Retire node)
event_in (frame.Skip from posts) = Some (event.Skip from posts)
event_in (frame.Hello hello) = None
event_in (frame.Welcome heard) = None
event_in (frame.Doubled heard) = None
event_in (frame.Unwelcome reason node) = None
event_in (frame.RetireIfSilent node) = Some (event.Retire node)
event_in (frame.Share share) = Some (event.Share share)

-- what tells a peer that these posts of the node `me` are for others
abbrev pub skip_spelling : ℕ → Option Range → List ℕ
skip_spelling me None = []
skip_spelling me (Some posts) = frame_spelling (frame.Skip me posts)

-- what is due once a post was put, as the node `me` writes it: the range that is skipped comes first
abbrev pub due_spelling : ℕ → Due → ℕ → Message → List ℕ
due_spelling me due number message =
    skip_spelling me due.skip ++ (if due.has_post then frame_spelling (frame.Post me number message) else [])

-- where it goes is told by the connection alone
abbrev pub output_frame : ℕ → Output → Frame
output_frame me (output.Send to number message) = frame.Post me number message
output_frame me (output.Ack to number) = frame.Ack me number
output_frame me (output.Reply session request answer) = frame.Reply session request answer

abbrev pub refusing : ℕ → ℕ → Refusal → Frame
refusing session request why = frame.Refused session request (number_of why) (value_of why)

-- only what a client or the operator asked for is answered; a request of the operator has no session and no number
abbrev pub refusal_frame : Event → Refusal → Option Frame
refusal_frame event.Leave why = Some (refusing 0 0 why)
refusal_frame (event.Ask session request command) why = Some (refusing session request why)
refusal_frame (event.Retire node) why = Some (refusing 0 0 why)
refusal_frame (event.Share share) why = Some (refusing 0 0 why)
refusal_frame _ why = None
