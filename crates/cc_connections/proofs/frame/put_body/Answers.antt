use Rattle.std.proofs.Common.{subst, sym, ◌∷◌, []}
use Rattle.cc_connections.specs.declared.frame.Frame.{Frame}
use Rattle.cc_connections.specs.Frames.{body_spelling}
use Rattle.cc_wire.specs.Writers.{Writes}
use Rattle.cc_wire.proofs.Writes.{writes_then}
use Rattle.cc_connections.proofs.frame.put_body.Goals as goal

pub returns-in_ok-put_u8-in-Ack-clause-writes : goal.returns-in_ok-put_u8-in-Ack-clause-writes
returns-in_ok-put_u8-in-Ack-clause-writes c =
    subst (λ (f : Frame). Writes c.args.out.now c.put_numbered.new.out (body_spelling f) c.put_numbered.result) (sym c.in-Ack.is)
    (writes_then c.args.out.now c.put_u8.new.out c.put_numbered.new.out (2 ∷ []) _ c.put_numbered.result c.in_ok-put_u8-in-Ack.ensures
    c.put_numbered.ensures.writes)

pub returns-in_ok-put_u8-in-Ask-clause-writes : goal.returns-in_ok-put_u8-in-Ask-clause-writes
returns-in_ok-put_u8-in-Ask-clause-writes c =
    subst (λ (f : Frame). Writes c.args.out.now c.put_asked.new.out (body_spelling f) c.put_asked.result) (sym c.in-Ask.is)
    (writes_then c.args.out.now c.put_u8-in-Ask.new.out c.put_asked.new.out (3 ∷ []) _ c.put_asked.result c.in_ok-put_u8-in-Ask.ensures
    c.put_asked.ensures.writes)

pub returns-in_ok-put_u8-in-Refused-clause-writes : goal.returns-in_ok-put_u8-in-Refused-clause-writes
returns-in_ok-put_u8-in-Refused-clause-writes c =
    subst (λ (f : Frame). Writes c.args.out.now c.put_refused.new.out (body_spelling f) c.put_refused.result) (sym c.in-Refused.is)
    (writes_then c.args.out.now c.put_u8-in-Refused.new.out c.put_refused.new.out (5 ∷ []) _ c.put_refused.result c.in_ok-put_u8-in-Refused.ensures
    c.put_refused.ensures.writes)

pub returns-in_ok-put_u8-in-Retire-clause-writes : goal.returns-in_ok-put_u8-in-Retire-clause-writes
returns-in_ok-put_u8-in-Retire-clause-writes c =
    subst (λ (f : Frame). Writes c.args.out.now c.put_id.new.out (body_spelling f) c.put_id.result) (sym c.in-Retire.is)
    (writes_then c.args.out.now c.put_u8-in-Retire.new.out c.put_id.new.out (7 ∷ []) _ c.put_id.result c.in_ok-put_u8-in-Retire.ensures c.put_id.ensures.writes)

pub returns-in_ok-put_u8-in-RetireIfSilent-clause-writes : goal.returns-in_ok-put_u8-in-RetireIfSilent-clause-writes
returns-in_ok-put_u8-in-RetireIfSilent-clause-writes c =
    subst (λ (f : Frame). Writes c.args.out.now c.put_id-in-RetireIfSilent.new.out (body_spelling f) c.put_id-in-RetireIfSilent.result) (sym c.in-RetireIfSilent.is)
    (writes_then c.args.out.now c.put_u8-in-RetireIfSilent.new.out c.put_id-in-RetireIfSilent.new.out (36 ∷ []) _ c.put_id-in-RetireIfSilent.result
    c.in_ok-put_u8-in-RetireIfSilent.ensures c.put_id-in-RetireIfSilent.ensures.writes)

pub returns-in_ok-put_u8-in-Skip-clause-writes : goal.returns-in_ok-put_u8-in-Skip-clause-writes
returns-in_ok-put_u8-in-Skip-clause-writes c =
    subst (λ (f : Frame). Writes c.args.out.now c.put_skip.new.out (body_spelling f) c.put_skip.result) (sym c.in-Skip.is)
    (writes_then c.args.out.now c.put_u8-in-Skip.new.out c.put_skip.new.out (32 ∷ []) _ c.put_skip.result c.in_ok-put_u8-in-Skip.ensures
    c.put_skip.ensures.writes)

pub returns-in_ok-put_u8-in-Share-clause-writes : goal.returns-in_ok-put_u8-in-Share-clause-writes
returns-in_ok-put_u8-in-Share-clause-writes c =
    subst (λ (f : Frame). Writes c.args.out.now c.put_share.new.out (body_spelling f) c.put_share.result) (sym c.in-Share.is)
    (writes_then c.args.out.now c.put_u8-in-Share.new.out c.put_share.new.out (37 ∷ []) _ c.put_share.result c.in_ok-put_u8-in-Share.ensures
    c.put_share.ensures.writes)

pub returns-in_ok-put_u8-in-Hello-clause-writes : goal.returns-in_ok-put_u8-in-Hello-clause-writes
returns-in_ok-put_u8-in-Hello-clause-writes c =
    subst (λ (f : Frame). Writes c.args.out.now c.put_hello.new.out (body_spelling f) c.put_hello.result) (sym c.in-Hello.is)
    (writes_then c.args.out.now c.put_u8-in-Hello.new.out c.put_hello.new.out (33 ∷ []) _ c.put_hello.result c.in_ok-put_u8-in-Hello.ensures
    c.put_hello.ensures.writes)

pub returns-in_ok-put_u8-in-Welcome-clause-writes : goal.returns-in_ok-put_u8-in-Welcome-clause-writes
returns-in_ok-put_u8-in-Welcome-clause-writes c =
    subst (λ (f : Frame). Writes c.args.out.now c.put_u64.new.out (body_spelling f) c.put_u64.result) (sym c.in-Welcome.is)
    (writes_then c.args.out.now c.put_u8-in-Welcome.new.out c.put_u64.new.out (34 ∷ []) _ c.put_u64.result c.in_ok-put_u8-in-Welcome.ensures
    c.put_u64.ensures)

pub returns-in_ok-put_u8-in-Unwelcome-clause-writes : goal.returns-in_ok-put_u8-in-Unwelcome-clause-writes
returns-in_ok-put_u8-in-Unwelcome-clause-writes c =
    subst (λ (f : Frame). Writes c.args.out.now c.put_unwelcome.new.out (body_spelling f) c.put_unwelcome.result) (sym c.in-Unwelcome.is)
    (writes_then c.args.out.now c.put_u8-in-Unwelcome.new.out c.put_unwelcome.new.out (35 ∷ []) _ c.put_unwelcome.result
    c.in_ok-put_u8-in-Unwelcome.ensures c.put_unwelcome.ensures.writes)

pub returns-in_ok-put_u8-in-Doubled-clause-writes : goal.returns-in_ok-put_u8-in-Doubled-clause-writes
returns-in_ok-put_u8-in-Doubled-clause-writes c =
    subst (λ (f : Frame). Writes c.args.out.now c.put_u64-in-Doubled.new.out (body_spelling f) c.put_u64-in-Doubled.result) (sym c.in-Doubled.is)
    (writes_then c.args.out.now c.put_u8-in-Doubled.new.out c.put_u64-in-Doubled.new.out (38 ∷ []) _ c.put_u64-in-Doubled.result
    c.in_ok-put_u8-in-Doubled.ensures c.put_u64-in-Doubled.ensures)
