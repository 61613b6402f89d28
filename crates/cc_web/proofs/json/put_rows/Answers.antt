use Rattle.std.proofs.Common.{◌≡◌, ℕ, ◌+◌, List, [], ◌∷◌, ◌++◌, take, ap, sym, ◌∙◌, append_assoc, arith}
use Rattle.std.proofs.lemmas.List.{take_more, take_all}
use Rattle.std.proofs.lemmas.Result.{on_ok_weaker}
use Rattle.cc_views.specs.declared.row.Row.{Row}
use Rattle.cc_web.specs.Json.{row_json}
use Rattle.cc_web.proofs.Arrays.{glue, glue_more, inside, more, whole_rows}
use Rattle.cc_web.proofs.Pieces.{where_ok}
use Rattle.cc_web.proofs.json.put_rows.Goals as goal

pub loop-row-preserved : goal.loop-row-preserved
loop-row-preserved c =
    let old = c.extend_from_slice.new.self.items in
    let rows = c.args.rows.now in
    let i = c.loop-row.row-index in
    let row = c.row-item.result in
    let next : take i rows ++ row ∷ [] ≡ take (i + 1) rows =
    ap (λ (r : Row). take i rows ++ r ∷ []) c.row-item.is ∙ sym (take_more rows i row (omega arith)) in
    record {
      out = c.in_ok-put_row.ensures
          ∙ ap (λ (ys : List ℕ). ys ++ row_json row) c.in_ok-extend_from_slice-2.ensures.items
          ∙ append_assoc c.loop-row.out.items c.loop-row.comma.now (row_json row)
          ∙ ap (λ (ys : List ℕ). c.loop-row.out.items ++ (ys ++ row_json row)) c.loop-row.invariant.comma
          ∙ ap (λ (ys : List ℕ). ys ++ (glue (take i rows) ++ row_json row)) c.loop-row.invariant.out
          ∙ append_assoc old (inside row_json (take i rows)) (glue (take i rows) ++ row_json row)
          ∙ ap (λ (ys : List ℕ). old ++ ys) (more row_json (take i rows) row ∙ ap (inside row_json) next);
      comma = glue_more (take i rows) row ∙ ap (λ (rs : List Row). glue rs) next;
    }

pub returns : goal.returns
returns c =
    let old = c.args.out.now.items in
    let rows = c.args.rows.now in
    let begin : List ℕ = 91 ∷ [] in
    let close : List ℕ = 93 ∷ [] in
    let all : c.loop-row.out.items ≡ (old ++ begin) ++ inside row_json rows =
    c.loop-row.invariant.out
    ∙ ap (λ (ys : List ℕ). ys ++ inside row_json (take c.loop-row.row-index rows)) c.in_ok-extend_from_slice.ensures.items
    ∙ ap (λ (rs : List Row). (old ++ begin) ++ inside row_json rs) (take_all c.loop-row.row-index rows (omega arith)) in
    on_ok_weaker c.extend_from_slice-2.result
    (λ e. e ∙ ap (λ (ys : List ℕ). ys ++ close) all ∙ append_assoc (old ++ begin) (inside row_json rows) close
    ∙ append_assoc old begin (inside row_json rows ++ close) ∙ ap (λ (ys : List ℕ). old ++ ys) (whole_rows rows))
    (where_ok c.extend_from_slice-2.result _ _ _ c.extend_from_slice-2.ensures.items)
