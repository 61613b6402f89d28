use Rattle.std.proofs.Common.{◌≡◌, ℕ, List, [], ◌∷◌, ◌++◌, ap, ◌∙◌, codes}
use Rattle.std.specs.Fmt.{decimal}
use Rattle.std.specs.List.{concat}
use Rattle.std.proofs.lemmas.Result.{on_ok_weaker}
use Rattle.cc_web.specs.Problems.{status_of, detail_of, reason_json}
use Rattle.cc_web.specs.Statuses.{code_of, title_of}
use Rattle.cc_web.proofs.Pieces.{one_more, where_ok}
use Rattle.cc_web.proofs.problem.put_problem.Goals as goal

pub returns : goal.returns
returns c =
    let old = c.args.out.now.items in
    let p = c.args.problem in
    let pieces : List (List ℕ) =
    codes "{\"type\":\"about:blank\",\"title\":\"" ∷ title_of (status_of p) ∷ codes "\",\"status\":" ∷ decimal (code_of (status_of p))
    ∷ codes ",\"detail\":\"" ∷ detail_of p ∷ codes "\"" ∷ [] in
    let front : c.put_all.new.out.items ≡ old ++ concat pieces =
    rw (
      c.as_bytes.ensures.value,
      c.title.ensures,
      c.as_bytes-2.ensures.value,
      c.format.ensures.text,
      c.code.ensures,
      c.as_bytes-3.ensures.value,
      c.detail.ensures,
      c.status-status.ensures,
    ) at c.in_ok-put_all.ensures in
    let middle : c.put_reason.new.out.items ≡ old ++ concat (pieces ++ reason_json p ∷ []) =
    c.in_ok-put_reason.ensures ∙ ap (λ (ys : List ℕ). ys ++ reason_json p) front ∙ one_more old pieces (reason_json p) in
    on_ok_weaker c.extend_from_slice.result
    (λ e. e ∙ ap (λ (ys : List ℕ). ys ++ codes "}") middle ∙ one_more old (pieces ++ reason_json p ∷ []) (codes "}")) (where_ok c.extend_from_slice.result c.extend_from_slice.new.self.items
    (c.put_reason.new.out.items ++ codes "}") c.put_reason.new.out.items c.extend_from_slice.ensures.items)
