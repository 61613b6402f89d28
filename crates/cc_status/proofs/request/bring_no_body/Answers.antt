use Rattle.std.proofs.Common.{rules, sym}
use Rattle.std.proofs.lemmas.List.{take_all}
use Rattle.std.proofs.lemmas.List.Elements.{All-map, All-more}
use Rattle.httparse.specs.Spans.{header_bytes}
use Rattle.cc_status.specs.Requests.{BringsNoBody}
use Rattle.cc_status.proofs.Fields.{refuted, untrue}
use Rattle.cc_status.proofs.request.bring_no_body.Goals as goal

pub returns-then-not-brings_no_body : goal.returns-then-not-brings_no_body
returns-then-not-brings_no_body c = (
  λ h. search rules,
  λ all. absurd (refuted BringsNoBody (header_bytes c.args.bytes.now) c.args.fields.now c.loop-field.field-index _
      c.loop-field-test.true (untrue _ c.brings_no_body.result c.brings_no_body.ensures.1 c.if-not-brings_no_body.true) all),
)

pub loop-field-preserved : goal.loop-field-preserved
loop-field-preserved c =
    All-more (λ field. BringsNoBody (header_bytes c.args.bytes.now field)) c.args.fields.now c.loop-field.field-index _
    c.loop-field-test.true c.loop-field.invariant (c.brings_no_body.ensures.0 c.if-not-brings_no_body.false)

pub returns : goal.returns
returns c = (
  λ _. All-map BringsNoBody (header_bytes c.args.bytes.now) c.args.fields.now
      (rw (sym (take_all c.loop-field.field-index c.args.fields.now c.loop-field-test.false)) c.loop-field.invariant),
  λ _. search rules,
)
