use Rattle.std.proofs.Common.{◌≡◌, ℕ, List, [], ◌∷◌, ◌++◌, None, ap, ◌∙◌, codes}
use Rattle.std.specs.Fmt.{decimal}
use Rattle.std.specs.List.{concat}
use Rattle.std.proofs.lemmas.Result.{on_ok_weaker}
use Rattle.cc_web.specs.Changes.{stores_in}
use Rattle.cc_web.specs.Responses.{view_json}
use Rattle.cc_web.proofs.Pieces.{one_more, where_ok}
use Rattle.cc_web.proofs.changes.put_change.Goals as goal

pub returns : goal.returns
returns c =
    let old = c.args.out.now.items in
    let rows = c.args.rows.now in
    let view = view_json rows None in
    let end = codes "\n\n" in
    let pieces : List (List ℕ) = codes "retry: 100\nid: " ∷ decimal (stores_in rows) ∷ codes "\ndata: " ∷ [] in
    let front : c.put_all.new.out.items ≡ old ++ concat pieces =
    rw (c.as_bytes.ensures.value, c.format.ensures.text, c.stores_in.ensures) at c.in_ok-put_all.ensures in
    let middle : c.put_view.new.out.items ≡ old ++ concat (pieces ++ view ∷ []) =
    c.in_ok-put_view.ensures ∙ ap (λ (ys : List ℕ). ys ++ view) front ∙ one_more old pieces view in
    on_ok_weaker c.extend_from_slice.result
    (λ e. e ∙ ap (λ (ys : List ℕ). ys ++ end) middle ∙ one_more old (pieces ++ view ∷ []) end)
    (where_ok c.extend_from_slice.result _ _ _ c.extend_from_slice.ensures.items)
