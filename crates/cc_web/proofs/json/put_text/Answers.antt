use Rattle.std.proofs.Common.{ℕ, List, ◌++◌, ap, sym, ◌∙◌, codes, append_assoc}
use Rattle.std.proofs.lemmas.Result.{on_ok_weaker}
use Rattle.cc_web.specs.Json.{string_json}
use Rattle.cc_web.proofs.Texts.{text_utf8}
use Rattle.cc_web.proofs.json.put_text.Goals as goal

pub returns-in_ok-extend_from_slice-in-Ok : goal.returns-in_ok-extend_from_slice-in-Ok
returns-in_ok-extend_from_slice-in-Ok c =
    let old = c.args.out.now.items in
    let text = c.args.text.now in
    on_ok_weaker c.put_string.result
    (λ e. e ∙ ap (λ (ys : List ℕ). ys ++ string_json text) c.in_ok-extend_from_slice-in-Ok.ensures.items
    ∙ append_assoc old (codes "\"text\":") (string_json text) ∙ ap (λ (ys : List ℕ). old ++ ys) (sym (text_utf8 text c.in-Ok.ensures.cases.1)))
    c.put_string.ensures
