-- What a worker brings.
--     same_again   whether an event is brought again, whatever it repeats
--     none_due     none is due where none is brought again
--     unasked      of a frame that only a server sends
--     greets       of a greeting
--     taken, guarded      of a frame that is an event
--     brings       of one that gives and hears so
use Rattle.std.proofs.Common.{◌≡◌, ℕ, List, [], ◌∷◌, Option, Some, None, Bool, true, false, Result, Ok, Err, sym, ap, subst, refl, ◌∙◌}
use Rattle.std.specs.Prelude.{IfSome, if◌then◌else◌}
use Rattle.cc_messages.specs.declared.event.Event.{Event}
use Rattle.cc_messages.specs.declared.event.Event.TheVariants as event
use Rattle.cc_messages.specs.declared.refusal.Refusal.{Refusal}
use Rattle.cc_messages.specs.declared.refusal.Refusal.TheVariants as refusal
use Rattle.cc_intake.specs.Talks.{Answer, Spoke, Talks}
use Rattle.cc_connections.specs.declared.frame.Frame.{Frame}
use Rattle.cc_connections.specs.declared.hello.Hello.{Hello}
use Rattle.cc_messages.specs.declared.command.Command.{Command}
use Rattle.cc_policies.specs.declared.response.Duty.{Duty}
use Rattle.cc_policies.specs.Responses.{heed_of, heed_refused}
use Rattle.cc_policies.specs.ReceivedFrames.{Next}
use Rattle.cc_policies.specs.Frames.{event_in}
use Rattle.cc_workers.specs.declared.caller.Done.{Done}
use Rattle.cc_workers.specs.WorkerSteps.{duty_of, brings_again, due_after, Takes, greeting_in, IsUnasked, Greets, wants_silence, Guards, Stops, Worker, Gives, Hears, Brings}

asked_again : (session request : ℕ) (command : Command) (why : Refusal) (differs : Bool)
    → brings_again (heed_refused (event.Ask session request command) why differs) ≡ brings_again (heed_refused (event.Ask session request command) why false)
asked_again session request command refusal.Repeat true = refl
asked_again session request command refusal.Repeat false = refl
asked_again session request command refusal.Left differs = refl
asked_again session request command refusal.NotEntered differs = refl
asked_again session request command refusal.AlreadyEntered differs = refl
asked_again session request command refusal.NotJoined differs = refl
asked_again session request command (refusal.Old n) differs = refl
asked_again session request command (refusal.Gap n) differs = refl
asked_again session request command refusal.NothingToAck differs = refl
asked_again session request command refusal.TooManyNodes differs = refl
asked_again session request command refusal.TooManySessions differs = refl
asked_again session request command (refusal.Stale n) differs = refl
asked_again session request command (refusal.Skip n) differs = refl
asked_again session request command refusal.Busy differs = refl
asked_again session request command refusal.SetFull differs = refl
asked_again session request command refusal.OutboxFull differs = refl
asked_again session request command refusal.Spent differs = refl
asked_again session request command refusal.NoMemory differs = refl
asked_again session request command refusal.QueueFull differs = refl

refused_again : (e : Event) (why : Refusal) (differs : Bool) → brings_again (heed_refused e why differs) ≡ brings_again (heed_refused e why false)
refused_again event.Enter why differs = refl
refused_again event.Leave why differs = refl
refused_again (event.Deliver from number m) why differs = refl
refused_again (event.Acked peer number) why differs = refl
refused_again (event.Ask session request command) why differs = asked_again session request command why differs
refused_again (event.Retire node) why differs = refl
refused_again (event.Lapse node) why differs = refl
refused_again event.Snapshot why differs = refl
refused_again (event.Skip from posts) why differs = refl
refused_again (event.Share share) why differs = refl

stirred_again : (e : Event) (stirs differs : Bool) → brings_again (heed_of e (Ok stirs) differs) ≡ brings_again (heed_of e (Ok stirs) false)
stirred_again e true differs = refl
stirred_again e false differs = refl

pub same_again : (e : Event) (answer : Answer) (differs : Bool) → brings_again (duty_of e answer differs) ≡ brings_again (duty_of e answer false)
same_again e (Ok a) differs = stirred_again e a.stirs differs
same_again e (Err refused) differs = refused_again e refused.why differs

pub none_due : (e : Event) (answer : Answer) (differs b : Bool) (d : Duty) → d ≡ duty_of e answer differs → b ≡ brings_again d → b ≡ false
    → None ≡ due_after e answer
none_due e answer differs b d is brings is_false =
    let none : brings_again (duty_of e answer false) ≡ false = sym (same_again e answer differs) ∙ ap brings_again (sym is) ∙ sym brings ∙ is_false in
    ap (λ (x : Bool). if x then Some e else None) (sym none)

pub unasked : (ahead : Option (List ℕ)) (frame : Frame) (after : Option (List ℕ)) → IfSome ahead (λ bytes. Next bytes frame after) → event_in frame ≡ None
    → greeting_in frame ≡ None → IfSome ahead (λ bytes. IsUnasked bytes)
unasked None frame after next none other = tt
unasked (Some bytes) frame after next none other = (frame, after, next, none, other)

pub greets : (ahead : Option (List ℕ)) (frame : Frame) (hello : Hello) (after : Option (List ℕ)) → IfSome ahead (λ bytes. Next bytes frame after)
    → greeting_in frame ≡ Some hello → IfSome ahead (λ bytes. Greets bytes hello)
greets None frame hello after next is = tt
greets (Some bytes) frame hello after next is = (frame, after, next, is)

pub taken : (ahead : Option (List ℕ)) (frame : Frame) (after : Option (List ℕ)) (e : Event) → IfSome ahead (λ bytes. Next bytes frame after)
    → event_in frame ≡ Some e → Takes None ahead e after
taken None frame after e next some = tt
taken (Some bytes) frame after e next some = (frame, next, some)

pub guarded : (ahead : Option (List ℕ)) (frame : Frame) (after : Option (List ℕ)) (e : Event) (was is : Bool) → IfSome ahead (λ bytes. Next bytes frame after)
    → event_in frame ≡ Some e → is ≡ wants_silence frame → Guards None ahead e was is
guarded None frame after e was is next some same = tt
guarded (Some bytes) frame after e was is next some same = (frame, after, next, some, same)

module _ (fails turns : Type 0) (answers : Event → Answer → Type 0) where
  stopped : (due : Option Event) (ahead : Option (List ℕ)) (why : Done) → Stops fails turns due ahead why
      → IfSome ahead (λ bytes. Stops fails turns due (Some bytes) why)
  stopped due None why stops = tt
  stopped due (Some bytes) why stops = stops

  abbrev More : Done → Option Event → Option (List ℕ) → List Answer → Type 0
  More why due ahead rest = IfSome ahead (λ bytes. Brings fails turns answers why due bytes rest)

  one_more : (why : Done) (due : Option Event) (before after : Option (List ℕ)) (e : Event) (answer : Answer) (rest : List Answer)
      → Takes due before e after → answers e answer → More why (due_after e answer) after rest → More why due before (answer ∷ rest)
  one_more why (Some d) None after e answer rest takes answered more = tt
  one_more why (Some d) (Some bytes) after e answer rest takes answered more =
      subst (λ (x : Event). answers x answer × Brings fails turns answers why (due_after x answer) bytes rest) takes.0
      (answered, subst (λ (x : Option (List ℕ)). More why (due_after e answer) x rest) takes.1 more)
  one_more why None None after e answer rest takes answered more = tt
  one_more why None (Some bytes) after e answer rest takes answered more =
      let next = takes.1 in
      (takes.0, e, next.1, next.0, next.3, takes.2, answered, subst (λ (x : Option (List ℕ)). More why (due_after e answer) x rest) next.2 more)

  module _ {S : Type 0} (worker : S → Worker) where
    abbrev Gave : S → Option Event → S → Type 0
    Gave s e t = Gives fails turns (worker s) e (worker t)

    abbrev Heard : S → Event → Answer → S → Type 0
    Heard s e a t = Hears (worker s) e a (worker t)

    brings_then : (s : S) (heard : List Answer) (t end : S) → Spoke Gave Heard answers s heard t
        → Gave t None end → More (worker end).done (worker s).due (worker s).ahead heard
    brings_then s [] t end spoke last =
        stopped (worker s).due (worker s).ahead (worker end).done (subst (λ (x : S). Gave x None end) (sym spoke) last)
    brings_then s (answer ∷ rest) t end spoke last =
        let e = spoke.0 in
        let u = spoke.1 in
        let w = spoke.2 in
        let why = (worker end).done in
        let g = spoke.3 in
        let h = spoke.5 in
        let more : More why (worker w).due (worker u).ahead rest = subst (λ (x : Option (List ℕ)). More why (worker w).due x rest) h.0
        (brings_then w rest t end spoke.6 last) in
        one_more why (worker s).due (worker s).ahead (worker u).ahead e answer rest g spoke.4
        (subst (λ (d : Option Event). More why d (worker u).ahead rest) h.1 more)

pub brings : (fails turns : Type 0) (answers : Event → Answer → Type 0) {S : Type 0} (s end : S) (worker : S → Worker) (heard : List Answer)
    → Talks (λ s e t. Gives fails turns (worker s) e (worker t)) (λ s e a t. Hears (worker s) e a (worker t)) answers s heard end
    → IfSome (worker s).ahead (λ bytes. Brings fails turns answers (worker end).done (worker s).due bytes heard)
brings fails turns answers s end worker heard talks = brings_then fails turns answers worker s heard talks.0 end talks.1 talks.2
