use Rattle.std.proofs.Common.{◌≡◌, ◌++◌, map, take}
use Rattle.http_server.specs.Response.{fields_of}
use Rattle.cc_web.proofs.http_response.put_all.Given as goal

abbrev pub invariant-loop-name : goal.invariant-loop-name
invariant-loop-name l = record {
  fields : fields_of l.sent ≡ fields_of l.fn.sent ++ map (λ f. (f.0.now, f.1.now)) (take l.name-index l.fields);
  status : l.sent.status ≡ l.fn.sent.status;
  body : l.sent.body ≡ l.fn.sent.body;
}
