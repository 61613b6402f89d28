use Rattle.std.proofs.Common.{◌≡◌, ℕ, List, Option, refl, subst}
use Rattle.cc_web.specs.Services.{Sends}
use Rattle.cc_web.proofs.service.WebServiceService.call.Goals as goal

pub returns-clause-ok : goal.returns-clause-ok
returns-clause-ok g c =
    let t = c.handle-reply.ensures in (
      refl,
      record {
        read = c.web_request.result;
        reads = c.web_request.ensures;
        steps = t.0;
        leads = t.1;
        reply = c.handle-reply.result;
        handles = t.2;
        sends = subst (λ (o : Option (List ℕ)). Sends o c.handle-reply.result c.send.new.response) c.origin_in-origin.ensures c.send.ensures;
      },
    )
