use Rattle.std.proofs.Common.{◌+◌, take, refl, sym, ◌∙◌, subst, ◌≡◌, true, false, Some, Ok}
use Rattle.std.proofs.lemmas.Result.{err_from_is_err_and}
use Rattle.cc_intake.specs.Turners.{Turning, tells}
use Rattle.cc_intake.specs.Turns.{Turns}
use Rattle.cc_intake.proofs.TurnerSteps.{turned_never, turned_full, lawful_batch, turned, turned_failed, kept_on, kept_failed}
use Rattle.cc_intake.proofs.turner.Turner.turn.Goals as goal

pub flush-requires-clause-lawful : goal.flush-requires-clause-lawful
flush-requires-clause-lawful g c =
    lawful_batch g.S.Site g.L.Life.reached g.L.Life.opening c.self.inside.consumer.entries c.gather-kept.new.consumer.entries c.self.inside.flushed
    c.len-events.result c.self.inside.kept c.take-kept.result c.gather-kept.result c.gather-kept.result c.gather-kept.new.batch
    c.self.inside.engine c.self.inside.engine c.take-kept.ensures.value c.self.invariant.0 refl c.gather-kept.ensures.gathers c.len-events.ensures.len
    c.gather-kept.ensures.lawful c.gather-kept.ensures.limit
    (sym c.fault.ensures ∙ c.in_default.is)

pub invariant_of-self : goal.invariant_of-self
invariant_of-self g c = (
  kept_failed g.S.Site g.L.Life.reached g.L.Life.opening c.self.inside.consumer.entries c.gather-kept.new.consumer.entries c.self.inside.flushed
      c.len-events.result c.self.inside.kept c.take-kept.result c.gather-kept.result c.replace.new.dest c.gather-kept.new.batch
      c.self.inside.engine c.flush.new.engine c.take-kept.ensures.value c.self.invariant.0 c.replace.ensures.after c.gather-kept.ensures.gathers
      c.len-events.ensures.len c.gather-kept.ensures.lawful c.gather-kept.ensures.limit
      c.in_err-flush.field-0.0.fault c.in_err-flush.ensures.flushed,
  c.flush.ensures.empties,
  c.self.invariant.2,
)

pub returns-in-Some-clause-turned : goal.returns-in-Some-clause-turned
returns-in-Some-clause-turned g c =
    let fault = c.in-Some.fault in
    let is = subst (λ t. t.engine.failed ≡ Some fault) c.self.view_is (sym c.fault.ensures ∙ c.in-Some.is) in
    turned_never g.S.Site g.L.Life.reached c.args.self.now (record { fault = fault }) is

pub returns-then-not-room-clause-turned : goal.returns-then-not-room-clause-turned
returns-then-not-room-clause-turned g c =
    subst (λ t. Turns g.S.Site g.L.Life.reached t t (Ok (record { events = 0; full = true }))) c.self.view_is
    (turned_full g.S.Site g.L.Life.reached _ c.self.invariant.0.owes (sym c.fault.ensures ∙ c.in_default.is) (g.met.S.Site.only_now c.self.inside.engine.site))

pub returns-then-not-room-clause-flushed : goal.returns-then-not-room-clause-flushed
returns-then-not-room-clause-flushed g c = tells g.L.Life.flushed c.self.invariant.2 _

pub returns-in_err-flush-clause-turned : goal.returns-in_err-flush-clause-turned
returns-in_err-flush-clause-turned g c =
    let now = c.gather-kept.new.consumer in
    let p = err_from_is_err_and c.from_residual.result c.from_residual.ensures.1 in
    let next : Turning g.row.S.Denot = record {
      handed = take (c.self.inside.flushed + c.len-events.result) now.entries;
      kept = c.replace.new.dest;
      finds = now.finds;
      engine = c.flush.new.engine;
    } in
    let run =
    turned_failed g.S.Site g.L.Life.reached g.L.Life.opening c.self.inside.consumer.entries c.gather-kept.new.consumer.entries c.self.inside.flushed
    c.len-events.result c.self.inside.kept c.take-kept.result c.gather-kept.result c.replace.new.dest c.gather-kept.new.batch
    c.self.inside.engine c.flush.new.engine c.take-kept.ensures.value c.self.invariant.0 c.replace.ensures.after c.gather-kept.ensures.gathers
    c.len-events.ensures.len c.gather-kept.ensures.lawful c.gather-kept.ensures.limit
    c.self.inside.consumer.finds now.finds c.in_err-flush.field-0.0 c.in_err-flush.ensures.flushed in
    subst (λ t. Turns g.S.Site g.L.Life.reached t next c.from_residual.result) c.self.view_is (rw (p.1, p.2) run)

pub invariant_of-self-2 : goal.invariant_of-self-2
invariant_of-self-2 g c = (
  kept_on g.S.Site g.L.Life.reached g.L.Life.opening c.self.inside.consumer.entries c.gather-kept.new.consumer.entries c.self.inside.flushed
      c.len-events.result c.self.inside.kept c.take-kept.result c.gather-kept.result c.replace.new.dest c.gather-kept.new.batch
      c.self.inside.engine c.flush.new.engine c.take-kept.ensures.value c.self.invariant.0 c.replace.ensures.after c.gather-kept.ensures.gathers
      c.len-events.ensures.len c.gather-kept.ensures.lawful c.gather-kept.ensures.limit
      (sym c.fault.ensures ∙ c.in_default.is) c.in_ok-flush.ensures.flushed,
  c.flush.ensures.empties,
  c.self.invariant.2,
)

pub returns-clause-turned : goal.returns-clause-turned
returns-clause-turned g c =
    let now = c.gather-kept.new.consumer in
    let next : Turning g.row.S.Denot = record {
      handed = take (c.self.inside.flushed + c.len-events.result) now.entries;
      kept = c.replace.new.dest;
      finds = now.finds;
      engine = c.flush.new.engine;
    } in
    let run =
    turned g.S.Site g.L.Life.reached g.L.Life.opening c.self.inside.consumer.entries c.gather-kept.new.consumer.entries c.self.inside.flushed
    c.len-events.result c.self.inside.kept c.take-kept.result c.gather-kept.result c.replace.new.dest c.gather-kept.new.batch
    c.self.inside.engine c.flush.new.engine c.take-kept.ensures.value c.self.invariant.0 c.replace.ensures.after c.gather-kept.ensures.gathers
    c.len-events.ensures.len c.gather-kept.ensures.lawful c.gather-kept.ensures.limit
    c.self.inside.consumer.finds now.finds c.gather-kept.ensures.done c.in_ok-flush.ensures.flushed in
    subst (λ t. Turns g.S.Site g.L.Life.reached t next (Ok (record { events = c.len-events.result; full = false }))) c.self.view_is run

pub returns-clause-twin : goal.returns-clause-twin
returns-clause-twin g c =
    let kept =
    kept_on g.S.Site g.L.Life.reached g.L.Life.opening c.self.inside.consumer.entries c.gather-kept.new.consumer.entries c.self.inside.flushed
    c.len-events.result c.self.inside.kept c.take-kept.result c.gather-kept.result c.gather-kept.result c.gather-kept.new.batch
    c.self.inside.engine c.flush.new.engine c.take-kept.ensures.value c.self.invariant.0 refl c.gather-kept.ensures.gathers c.len-events.ensures.len
    c.gather-kept.ensures.lawful c.gather-kept.ensures.limit
    (sym c.fault.ensures ∙ c.in_default.is) c.in_ok-flush.ensures.flushed in
    kept.twin c.in_ok-flush.ensures.flushed.goes_on

pub returns-clause-flushed : goal.returns-clause-flushed
returns-clause-flushed g c = tells g.L.Life.flushed c.self.invariant.2 _
