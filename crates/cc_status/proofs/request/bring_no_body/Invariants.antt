use Rattle.std.proofs.Common.{All, take}
use Rattle.httparse.specs.Spans.{header_bytes}
use Rattle.cc_status.specs.Requests.{BringsNoBody}
use Rattle.cc_status.proofs.request.bring_no_body.Given as goal

-- none of the fields so far brings a body
abbrev pub invariant-loop-field : goal.invariant-loop-field
invariant-loop-field l = All (λ field. BringsNoBody (header_bytes l.bytes field)) (take l.field-index l.fields)
