use Rattle.std.proofs.Common.{◌≡◌, List, subst}
use Rattle.std.specs.Prelude.{MatchBool}
use Rattle.std.proofs.lemmas.Option.{MatchOption-at_some}
use Rattle.cc_messages.specs.declared.event.Event.{Event}
use Rattle.cc_node.specs.Node.{after, IsLawful}
use Rattle.cc_journal.specs.EventReads.{SpellsEvents}
use Rattle.cc_journal.proofs.EventReadLaws.{one_list}
use Rattle.cc_journal.proofs.events.take_events.Goals as goal

pub returns-else-branch : goal.returns-else-branch
returns-else-branch c events spelled lawful =
    let bytes = c.args.bytes.now in
    let read = MatchOption-at_some _ (λ v. SpellsEvents bytes v.items) c.in-Some.events c.in-Some.is c.in_ok-events.ensures in
    let start = c.args.node.now in
    let items = c.in-Some.events.items in
    let refused = subst (λ b. MatchBool b (IsLawful start items × (c.settle_all.new.node ≡ after start items)) (IsLawful start items → ⊥))
    c.if-branch.false c.in_ok-settle_all.ensures in
    refused (subst (λ (l : List Event). IsLawful start l) (one_list bytes events items spelled read) lawful)
