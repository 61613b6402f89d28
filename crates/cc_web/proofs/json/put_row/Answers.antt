use Rattle.std.proofs.Common.{◌≡◌, ℕ, List, [], ◌∷◌, ◌++◌, ap, ◌∙◌, codes}
use Rattle.std.specs.Fmt.{decimal}
use Rattle.std.specs.List.{concat}
use Rattle.std.proofs.lemmas.Result.{on_ok_weaker}
use Rattle.cc_web.specs.Json.{text_json, rest_json}
use Rattle.cc_web.proofs.Pieces.{one_more}
use Rattle.cc_web.proofs.json.put_row.Goals as goal

pub returns : goal.returns
returns c =
    let old = c.args.out.now.items in
    let row = c.args.row.now in
    let text = text_json row.value.text in
    let pieces : List (List ℕ) = codes "{\"node\":" ∷ decimal row.node ∷ codes ",\"number\":\"" ∷ decimal row.number ∷ codes "\"," ∷ [] in
    let front : c.put_all.new.out.items ≡ old ++ concat pieces =
    rw (c.as_bytes.ensures.value, c.format.ensures.text, c.number.ensures.number, c.as_bytes-2.ensures.value, c.format-2.ensures.text) at c.in_ok-put_all.ensures in
    let named : text_json c.as_bytes-3.result.now ≡ text = ap text_json c.as_bytes-3.ensures.bytes in
    let middle : c.put_text.new.out.items ≡ old ++ concat (pieces ++ text ∷ []) =
    c.in_ok-put_text.ensures ∙ ap (λ (ys : List ℕ). c.put_all.new.out.items ++ ys) named ∙ ap (λ (ys : List ℕ). ys ++ text) front ∙ one_more old pieces text in
    on_ok_weaker c.put_rest.result
    (λ e. e ∙ ap (λ (ys : List ℕ). ys ++ rest_json row.value) middle ∙ one_more old (pieces ++ text ∷ []) (rest_json row.value)) c.put_rest.ensures
