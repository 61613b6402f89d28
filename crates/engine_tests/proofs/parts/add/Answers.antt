use Rattle.std.proofs.Common.{◌≡◌, ◌∷◌, ◌++◌, [], None, sym, ap, subst, ◌∙◌}
use Rattle.cc_node.specs.Core.{next, made}
use Rattle.cc_node.specs.Node.{after}
use Rattle.cc_node.specs.Refusals.{decides}
use Rattle.cc_journal.specs.declared.entry.Entry.{Entry}
use Rattle.cc_journal.specs.Batches.{AreLawful, events_in}
use Rattle.cc_journal.specs.BatchLaws.{lawful_more, core_more}
use Rattle.engine_tests.proofs.parts.add.Goals as goal

pub returns-clause-lawful : goal.returns-clause-lawful
returns-clause-lawful g c =
    let entry : Entry = record { event = c.args.event; made = made c.args.live.now c.args.event } in
    let of = c.entry_of-entry.ensures in
    let taken = subst (λ core. decides core c.args.event ≡ None) c.requires.live of.0 in
    let pushed = c.put.ensures ∙ ap (λ (e : Entry). c.args.batch.now ++ e ∷ []) of.1 in
    subst (AreLawful c.args.node.now) (sym pushed)
    (lawful_more c.args.node.now c.args.batch.now entry c.requires.lawful taken (ap (λ core. made core c.args.event) c.requires.live))

pub returns-clause-live : goal.returns-clause-live
returns-clause-live g c =
    let live = c.apply.new.self in
    let entry : Entry = record { event = c.args.event; made = made c.args.live.now c.args.event } in
    let of = c.entry_of-entry.ensures in
    let pushed = c.put.ensures ∙ ap (λ (e : Entry). c.args.batch.now ++ e ∷ []) of.1 in
    let next_is = subst (λ core. live ≡ next core c.args.event) c.requires.live (c.apply.ensures ∙ ap (λ (e : Entry). next c.args.live.now e.event) of.1) in
    subst (λ entries. live ≡ (after c.args.node.now (events_in entries)).core) (sym pushed) (next_is ∙ sym (core_more c.args.node.now c.args.batch.now entry))
