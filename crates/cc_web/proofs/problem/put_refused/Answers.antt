use Rattle.std.proofs.Common.{◌≡◌, ℕ, List, [], ◌∷◌, ◌++◌, ap, ◌∙◌, codes}
use Rattle.std.specs.Fmt.{decimal}
use Rattle.std.specs.List.{concat}
use Rattle.std.proofs.lemmas.Result.{on_ok_weaker}
use Rattle.cc_messages.specs.Refusals.{name_of, number_of}
use Rattle.cc_web.specs.Problems.{last_json, refused_json}
use Rattle.cc_web.proofs.Pieces.{one_more}
use Rattle.cc_web.proofs.problem.put_refused.Goals as goal

pub returns : goal.returns
unfolding refused_json
returns c =
    let old = c.args.out.now.items in
    let why = c.args.why in
    let pieces : List (List ℕ) = codes ",\"refusal\":\"" ∷ name_of why ∷ codes "\",\"number\":" ∷ decimal (number_of why) ∷ [] in
    let front : c.put_all.new.out.items ≡ old ++ concat pieces =
    rw (c.as_bytes.ensures.value, c.refusal_name.ensures, c.as_bytes-2.ensures.value, c.format.ensures.text, c.number.ensures) at c.in_ok-put_all.ensures in
    on_ok_weaker c.put_last.result (λ e. e ∙ ap (λ (ys : List ℕ). ys ++ last_json why) front ∙ one_more old pieces (last_json why)) c.put_last.ensures
