use Rattle.std.proofs.Common.{inl, refl, ap}
use Rattle.std.specs.Prelude.{codes}
use Rattle.http_server.specs.Response.{fields_of}
use Rattle.cc_web.proofs.ResponseEnds.{with_field}
use Rattle.cc_web.proofs.conversation.ConversationService.call.Goals as goal

-- src/conversation.rt:35:5
pub returns-then-is_over-clause-ok : goal.returns-then-is_over-clause-ok
returns-then-is_over-clause-ok g c = record {
  answer = c.call.new.response;
  answered = c.in_ok-call.ensures.ok;
  status = c.add_header.ensures.status;
  body = ap (λ b. b.items) c.add_header.ensures.body;
  fields = with_field (fields_of c.call.new.response) (fields_of c.add_header.new.self) (codes "connection") (codes "close")
      c.from_static-name.result c.from_static.result.bytes c.add_header.result
      c.from_static-name.ensures (ap (λ v. v.bytes) c.from_static.ensures)
      c.add_header.ensures.headers c.add_header.ensures.kept;
}

-- src/conversation.rt:35:5
pub returns-else-is_over-clause-ok : goal.returns-else-is_over-clause-ok
returns-else-is_over-clause-ok g c = record {
  answer = c.call.new.response;
  answered = c.in_ok-call.ensures.ok;
  status = refl;
  body = refl;
  fields = inl refl;
}
