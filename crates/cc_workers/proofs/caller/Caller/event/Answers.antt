use Rattle.std.proofs.Common.{Option, sym, ◌∙◌, subst}
use Rattle.cc_messages.specs.declared.event.Event.{Event}
use Rattle.cc_workers.specs.WorkerSteps.{Takes, Guards}
use Rattle.cc_workers.proofs.WorkerStepLaws.{unasked, greets, taken, guarded}
use Rattle.cc_workers.proofs.caller.Caller.event.Goals as goal

pub returns-in-None : goal.returns-in-None
returns-in-None g c =
    let none = sym c.greeting_in.ensures ∙ c.in_default-greeting_in.is in
    record {
      comes = (
        sym c.take.ensures.value ∙ c.in_default.is,
        unasked c.args.self.now.frames c.in-Ok.frame c.read_frame.new.self c.in-Ok.ensures (sym c.event_of.ensures ∙ c.in-None.is) none,
      );
      guards = tt;
    }

pub returns-in-Some-greeting_in : goal.returns-in-Some-greeting_in
returns-in-Some-greeting_in g c =
    let hello = c.in-Some-greeting_in.hello in
    record {
      comes = (
        sym c.take.ensures.value ∙ c.in_default.is,
        greets c.args.self.now.frames c.in-Ok.frame hello c.read_frame.new.self c.in-Ok.ensures (sym c.greeting_in.ensures ∙ c.in-Some-greeting_in.is),
      );
      guards = tt;
    }

pub returns-in-Some-event_of : goal.returns-in-Some-event_of
returns-in-Some-event_of g c =
    let ahead = c.args.self.now.frames in
    let after = c.read_frame.new.self in
    let frame = c.in-Ok.frame in
    let e = c.in-Some-event_of.event in
    let was = c.args.self.now.is_guarded in
    let is = c.wants_silence-self.result in
    let some = sym c.event_of.ensures ∙ c.in-Some-event_of.is in
    let none = sym (sym c.take.ensures.value ∙ c.in_default.is) in
    record {
      comes = subst (λ (due : Option Event). Takes due ahead e after) none (taken ahead frame after e c.in-Ok.ensures some);
      guards = subst (λ (due : Option Event). Guards due ahead e was is) none
          (guarded ahead frame after e was is c.in-Ok.ensures some c.wants_silence-self.ensures);
    }
