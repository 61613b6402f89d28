-- What a worker brings to the intake of the bytes that come over its connection.
--     duty_of             what an answer of the intake asks of a worker
--     due_after           the event that is brought again after this answer, if any
--     Takes, Stops        the event that comes next, and what is left of the bytes; why none comes
--     IsUnasked, Greets   the frame that comes next is one that only a server sends; or a greeting
--     Guards              whether the event that comes next is the retirement of a node that has to be silent
--     IsTaken             the node that is taken at the end of a worker is the one that greeted, where nodes may speak
--     Gives, Hears        what one event and one answer leave of a worker
--     Brings              in which order events are answered
use Rattle.std.specs.Prelude.{◌≡◌, ℕ, ◌++◌, List, [], ◌∷◌, Bool, true, false, Option, Some, None, IfSome, if◌then◌else◌, Ok, Err, ⊤}
use Rattle.cc_messages.specs.declared.event.Event.{Event}
use Rattle.cc_connections.specs.declared.frame.Frame.{Frame}
use Rattle.cc_connections.specs.declared.frame.Frame.TheVariants as frames
use Rattle.cc_connections.specs.declared.hello.Hello.{Hello}
use Rattle.cc_connections.specs.Frames.{frame_spelling, IsFrame}
use Rattle.cc_intake.specs.Talks.{Answer}
use Rattle.cc_policies.specs.declared.response.Duty.{Duty}
use Rattle.cc_policies.specs.declared.response.Duty.TheVariants as duty
use Rattle.cc_policies.specs.Responses.{heed_of}
use Rattle.cc_policies.specs.Frames.{event_in}
use Rattle.cc_policies.specs.ReceivedFrames.{Next, Ends}
use Rattle.cc_workers.specs.declared.caller.Done.{Done}
use Rattle.cc_workers.specs.declared.caller.Done.TheVariants as done

abbrev pub duty_of : Event → Answer → Bool → Duty
duty_of e (Ok a) differs = heed_of e (Ok a.stirs) differs
duty_of e (Err refused) differs = heed_of e (Err refused.why) differs

abbrev pub brings_again : Duty → Bool
brings_again duty.BringAgain = true
brings_again _ = false

-- whether it repeats a request with another command changes nothing of that
abbrev pub due_after : Event → Answer → Option Event
due_after e answer = if brings_again (duty_of e answer false) then Some e else None

-- an event that is due, or that of the next frame of bytes that are known
abbrev pub Takes : Option Event → Option (List ℕ) → Event → Option (List ℕ) → Type 0
Takes (Some due) ahead e after = (e ≡ due) × (after ≡ ahead)
Takes None ahead e after = IfSome ahead (λ bytes. (frame : Frame) × Next bytes frame after × (event_in frame ≡ Some e))

-- the greeting that a frame is
abbrev pub greeting_in : Frame → Option Hello
greeting_in (frames.Hello hello) = Some hello
greeting_in _ = None

-- the frame that comes next brings no event, and is no greeting
abbrev pub IsUnasked : List ℕ → Type 0
IsUnasked bytes = (frame : Frame) × (left : Option (List ℕ)) × Next bytes frame left × (event_in frame ≡ None) × (greeting_in frame ≡ None)

-- the frame that comes next is that greeting
abbrev pub Greets : List ℕ → Hello → Type 0
Greets bytes hello = (frame : Frame) × (left : Option (List ℕ)) × Next bytes frame left × (greeting_in frame ≡ Some hello)

-- whether a frame retires a node only where that one is silent
abbrev pub wants_silence : Frame → Bool
wants_silence (frames.RetireIfSilent node) = true
wants_silence _ = false

-- An event that is due again is guarded as it was.
abbrev pub Guards : Option Event → Option (List ℕ) → Event → Bool → Bool → Type 0
Guards (Some due) ahead e was guarded = guarded ≡ was
Guards None ahead e was guarded =
    IfSome ahead (λ bytes. (frame : Frame) × (left : Option (List ℕ)) × Next bytes frame left × (event_in frame ≡ Some e) × (guarded ≡ wants_silence frame))

abbrev pub IsTaken : Bool → Done → ℕ → Type 0
IsTaken may_speak why node = (may_speak ≡ true) × (hello : Hello) × (why ≡ done.Greets hello) × (node ≡ hello.from)

-- Why no event comes. Whatever the reader is why of, no event was due; it failed only where it can, and an event is turned
-- away only where one can be.
abbrev pub Stops : Type 0 → Type 0 → Option Event → Option (List ℕ) → Done → Type 0
Stops fails turns due ahead (done.Frames why) = (due ≡ None) × IfSome ahead (λ bytes. Ends fails bytes why)
Stops fails turns due ahead done.Unasked = (due ≡ None) × IfSome ahead (λ bytes. IsUnasked bytes)
Stops fails turns due ahead (done.Greets hello) = (due ≡ None) × IfSome ahead (λ bytes. Greets bytes hello)
Stops fails turns due ahead (done.TurnedAway why) = turns
Stops fails turns due ahead done.NoMemory = ⊤

-- what a worker has: the event that is due, the bytes ahead, and why no event came
pub record Worker : Type 0 where
  pub due : Option Event
  pub ahead : Option (List ℕ)
  pub done : Done

abbrev pub Gives : Type 0 → Type 0 → Worker → Option Event → Worker → Type 0
Gives fails turns s None t = Stops fails turns s.due s.ahead t.done
Gives fails turns s (Some e) t = Takes s.due s.ahead e t.ahead

abbrev pub Hears : Worker → Event → Answer → Worker → Type 0
Hears s e answer t = (t.ahead ≡ s.ahead) × (t.due ≡ due_after e answer)

-- The answers are those to the events of the frames that the bytes spell, frame by frame: the intake's to that very event.
-- An event that is due is answered once more before. Behind the last answer stands why there is no further one.
module _ (fails turns : Type 0) (answers : Event → Answer → Type 0) where
  abbrev pub Brings : Done → Option Event → List ℕ → List Answer → Type 0
  Brings why due bytes [] = Stops fails turns due (Some bytes) why
  Brings why None bytes (answer ∷ rest) =
      (frame : Frame) × (e : Event) × (left : List ℕ)
      × IsFrame frame × (bytes ≡ frame_spelling frame ++ left) × (event_in frame ≡ Some e) × answers e answer × Brings why (due_after e answer) left rest
  Brings why (Some e) bytes (answer ∷ rest) = answers e answer × Brings why (due_after e answer) bytes rest
