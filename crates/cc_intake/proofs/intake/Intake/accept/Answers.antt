use Rattle.std.proofs.Common.{[], ◌∷◌, length, sym, ap, ◌∙◌, arith, length-append}
use Rattle.cc_messages.specs.declared.event.Event.{Event}
use Rattle.cc_node.specs.Core.{Core, next}
use Rattle.cc_journal.specs.declared.entry.Entry.{Entry}
use Rattle.cc_journal.specs.BatchLaws.{core_more}
use Rattle.cc_intake.specs.Histories.{core_after}
use Rattle.cc_intake.specs.Intakes.{Accepting}
use Rattle.cc_intake.specs.Ends.{End}
use Rattle.cc_intake.proofs.intake.Intake.accept.Goals as goal

pub invariant_of-self-2 : goal.invariant_of-self-2
invariant_of-self-2 g c =
    let i = c.self.invariant in
    let opening = g.L.Life.opening in
    let entry = c.in-Ok.entry in
    let pushed = c.in-Ok-push.ensures.pushed in
    let core = c.apply.ensures ∙ ap (λ (e : Event). next c.self.inside.core e) (sym (ap (λ (e : Entry). e.event) c.in-Ok.ensures.entry.1))
    ∙ ap (λ (s : Core). next s entry.event) i.0
    ∙ sym (core_more opening c.self.inside.producer.entries entry)
    ∙ ap (λ (p : End). core_after opening p.entries) (sym pushed) in
    let count = i.1 in
    let room = c.in-Ok.ensures.entry.0.1 in
    let shown = ap (λ (a : Accepting). length a.entries) c.self.view_is in
    let longer = ap (λ (p : End). length p.entries) pushed in
    let added = length-append c.self.inside.producer.entries (entry ∷ []) in (
      core,
      omega (arith, count, longer, added),
      omega (arith, count, room, shown),
      omega (arith, c.raise.ensures.total, i.3),
      i.4,
      i.5,
      i.6,
      c.in-Ok-push.ensures.accepted,
    )
