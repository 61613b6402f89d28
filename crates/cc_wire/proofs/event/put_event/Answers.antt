use Rattle.std.proofs.Common.{subst, sym, ◌∷◌, []}
use Rattle.cc_messages.specs.declared.event.Event.{Event}
use Rattle.cc_wire.specs.Events.{event_spelling}
use Rattle.cc_wire.specs.Writers.{Writes}
use Rattle.cc_wire.proofs.Writes.{writes_then}
use Rattle.cc_wire.proofs.event.put_event.Goals as goal

pub returns-in_ok-put_u8-in-Deliver-clause-writes : goal.returns-in_ok-put_u8-in-Deliver-clause-writes
returns-in_ok-put_u8-in-Deliver-clause-writes c =
    subst (λ (e : Event). Writes c.args.out.now c.put_delivery.new.out (event_spelling e) c.put_delivery.result) (sym c.in-Deliver.is)
    (writes_then c.args.out.now c.put_u8-in-Deliver.new.out c.put_delivery.new.out (3 ∷ []) _ c.put_delivery.result c.in_ok-put_u8-in-Deliver.ensures
    c.put_delivery.ensures.writes)

pub returns-in_ok-put_u8-in-Acked-clause-writes : goal.returns-in_ok-put_u8-in-Acked-clause-writes
returns-in_ok-put_u8-in-Acked-clause-writes c =
    subst (λ (e : Event). Writes c.args.out.now c.put_numbered.new.out (event_spelling e) c.put_numbered.result) (sym c.in-Acked.is)
    (writes_then c.args.out.now c.put_u8-in-Acked.new.out c.put_numbered.new.out (4 ∷ []) _ c.put_numbered.result c.in_ok-put_u8-in-Acked.ensures
    c.put_numbered.ensures.writes)

pub returns-in_ok-put_u8-in-Ask-clause-writes : goal.returns-in_ok-put_u8-in-Ask-clause-writes
returns-in_ok-put_u8-in-Ask-clause-writes c =
    subst (λ (e : Event). Writes c.args.out.now c.put_asked.new.out (event_spelling e) c.put_asked.result) (sym c.in-Ask.is)
    (writes_then c.args.out.now c.put_u8-in-Ask.new.out c.put_asked.new.out (5 ∷ []) _ c.put_asked.result c.in_ok-put_u8-in-Ask.ensures
    c.put_asked.ensures.writes)

pub returns-in_ok-put_u8-in-Skip-clause-writes : goal.returns-in_ok-put_u8-in-Skip-clause-writes
returns-in_ok-put_u8-in-Skip-clause-writes c =
    subst (λ (e : Event). Writes c.args.out.now c.put_skip.new.out (event_spelling e) c.put_skip.result) (sym c.in-Skip.is)
    (writes_then c.args.out.now c.put_u8-in-Skip.new.out c.put_skip.new.out (34 ∷ []) _ c.put_skip.result c.in_ok-put_u8-in-Skip.ensures
    c.put_skip.ensures.writes)

pub returns-in_ok-put_u8-in-Share-clause-writes : goal.returns-in_ok-put_u8-in-Share-clause-writes
returns-in_ok-put_u8-in-Share-clause-writes c =
    subst (λ (e : Event). Writes c.args.out.now c.put_share.new.out (event_spelling e) c.put_share.result) (sym c.in-Share.is)
    (writes_then c.args.out.now c.put_u8-in-Share.new.out c.put_share.new.out (35 ∷ []) _ c.put_share.result c.in_ok-put_u8-in-Share.ensures
    c.put_share.ensures.writes)
