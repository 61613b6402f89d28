use Rattle.std.proofs.Common.{◌≡◌, ℕ, ◌+◌, List, [], ◌∷◌, ◌++◌, take, get_or, ap, sym, ◌∙◌, append_assoc, arith}
use Rattle.std.proofs.lemmas.List.{take_more, take_all}
use Rattle.std.proofs.lemmas.Result.{on_ok_weaker}
use Rattle.cc_web.proofs.Arrays.{glue, glue_more, inside, more, number_json, whole_numbers}
use Rattle.cc_web.proofs.Pieces.{where_ok}
use Rattle.cc_web.proofs.json.put_numbers.Goals as goal

pub loop-number-preserved : goal.loop-number-preserved
loop-number-preserved c =
    let old = c.extend_from_slice.new.self.items in
    let numbers = c.args.numbers.now in
    let i = c.loop-number.number-index in
    let number = get_or numbers i 0 in
    let next : take i numbers ++ number ∷ [] ≡ take (i + 1) numbers = sym (take_more numbers i 0 (omega arith)) in
    let put : c.put_all.new.out.items ≡ c.extend_from_slice-in-loop-number.new.self.items ++ number_json number =
    rw (c.as_bytes.ensures.value, c.format.ensures.text) at c.in_ok-put_all.ensures in
    record {
      out = put ∙ ap (λ (ys : List ℕ). ys ++ number_json number) c.in_ok-extend_from_slice-2.ensures.items
          ∙ append_assoc c.loop-number.out.items c.loop-number.mark.now (number_json number)
          ∙ ap (λ (ys : List ℕ). c.loop-number.out.items ++ (ys ++ number_json number)) c.loop-number.invariant.mark
          ∙ ap (λ (ys : List ℕ). ys ++ (glue (take i numbers) ++ number_json number)) c.loop-number.invariant.out
          ∙ append_assoc old (inside number_json (take i numbers)) (glue (take i numbers) ++ number_json number)
          ∙ ap (λ (ys : List ℕ). old ++ ys) (more number_json (take i numbers) number ∙ ap (inside number_json) next);
      mark = glue_more (take i numbers) number ∙ ap (λ (ns : List ℕ). glue ns) next;
    }

pub returns : goal.returns
returns c =
    let old = c.args.out.now.items in
    let numbers = c.args.numbers.now in
    let begin : List ℕ = 91 ∷ [] in
    let close : List ℕ = 93 ∷ [] in
    let all : c.loop-number.out.items ≡ (old ++ begin) ++ inside number_json numbers =
    c.loop-number.invariant.out
    ∙ ap (λ (ys : List ℕ). ys ++ inside number_json (take c.loop-number.number-index numbers)) c.in_ok-extend_from_slice.ensures.items
    ∙ ap (λ (ns : List ℕ). (old ++ begin) ++ inside number_json ns) (take_all c.loop-number.number-index numbers (omega arith)) in
    on_ok_weaker c.extend_from_slice-2.result
    (λ e. e ∙ ap (λ (ys : List ℕ). ys ++ close) all ∙ append_assoc (old ++ begin) (inside number_json numbers) close
    ∙ append_assoc old begin (inside number_json numbers ++ close) ∙ ap (λ (ys : List ℕ). old ++ ys) (whole_numbers numbers))
    (where_ok c.extend_from_slice-2.result _ _ _ c.extend_from_slice-2.ensures.items)
