use Rattle.std.proofs.Common.{◌≡◌, List, Option, option_map, subst}
use Rattle.std.specs.Option.{option_copied}
use Rattle.http_header.specs.FieldValue.{FieldValue}
use Rattle.http_server.specs.Response.{IsResponse}
use Rattle.cc_web.specs.Statuses.{code_of}
use Rattle.cc_web.specs.declared.response.WebHead.{WebHead}
use Rattle.cc_web.specs.HttpResponses.{sent_fields}
use Rattle.cc_web.specs.Services.{Gives}
use Rattle.cc_web.proofs.ServiceLemmas.{on_ok_map}
use Rattle.cc_web.proofs.service.give.Goals as goal

pub returns-in-Ok : goal.returns-in-Ok
returns-in-Ok c =
    let origin = option_map (λ (v : FieldValue). v.bytes) (option_copied c.args.origin) in
    let decided = c.in-Ok.decided in
    let given = c.put_response.new.sent in
    on_ok_map c.put_response.result
    (IsResponse (code_of decided.head.status) (sent_fields decided.head origin) decided.body.items given)
    (Gives origin c.args.reply.now given)
    (λ is. record {
      body = decided.body.items;
      has_body = c.in-Ok.ensures.body;
      sent = subst (λ (h : WebHead). IsResponse (code_of h.status) (sent_fields h origin) decided.body.items given) c.in-Ok.ensures.head is;
    })
    c.put_response.ensures
