use Rattle.std.proofs.Common.{rules, ◌≡◌, ℕ, List, [], ◌∷◌, ◌++◌, option_map, ap, sym, subst, ◌∙◌, append_assoc, codes}
use Rattle.std.specs.Option.{option_copied}
use Rattle.std.specs.Result.{OnOk}
use Rattle.http1.specs.Fields.{Header}
use Rattle.http_server.specs.Response.{fields_of}
use Rattle.cc_web.specs.HttpResponses.{origin_fields}
use Rattle.cc_web.proofs.http_response.put_origin.Goals as goal

pub returns-clause-fields : goal.returns-clause-fields
returns-clause-fields c =
    let old = fields_of c.args.sent.now in
    let name : List ℕ = codes "access-control-allow-origin" in
    let more : List Header = (codes "access-control-allow-headers", codes "content-type, idempotency-key") ∷ (codes "vary", codes "origin") ∷ [] in
    let named : c.from_static.result ≡ name = c.from_static.ensures in
    let copied : c.in_ok-value.value.bytes ≡ c.in-Some.origin.now.bytes = search rules in
    subst (λ (t : List Header). OnOk c.put_all.result (fields_of c.put_all.new.sent ≡ t))
    (ap (λ (h : List Header). h ++ more) c.in_ok-add_header.ensures.headers
    ∙ append_assoc old ((c.from_static.result, c.in_ok-value.value.bytes) ∷ []) more
    ∙ ap (λ (b : List ℕ). old ++ (c.from_static.result, b) ∷ more) copied
    ∙ ap (λ (n : List ℕ). old ++ (n, c.in-Some.origin.now.bytes) ∷ more) named
    ∙ ap (λ o. old ++ origin_fields (option_map (λ v. v.bytes) (option_copied o))) (sym c.in-Some.is))
    c.put_all.ensures.fields
