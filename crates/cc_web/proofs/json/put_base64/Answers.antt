use Rattle.std.proofs.Common.{◌≡◌, ℕ, List, ◌++◌, ap, ◌∙◌, codes}
use Rattle.std.proofs.lemmas.Result.{on_ok_weaker}
use Rattle.base64.specs.Engines.{standard}
use Rattle.base64.specs.GeneralPurpose.{encode_of}
use Rattle.cc_web.proofs.json.put_base64.Goals as goal

pub returns : goal.returns
returns c =
    let encoded : c.as_bytes.result.now ≡ encode_of standard c.args.text.now = c.as_bytes.ensures.value ∙ c.in_ok-encoded.ensures.text in
    on_ok_weaker c.put_all-put.result
    (λ e. e ∙ ap (λ (ys : List ℕ). c.args.out.now.items ++ (codes "\"text_base64\":\"" ++ (ys ++ codes "\""))) encoded) c.put_all-put.ensures
