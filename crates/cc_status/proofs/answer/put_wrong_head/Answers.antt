use Rattle.std.proofs.Common.{List, ℕ, codes, subst, refl, false}
use Rattle.cc_status.specs.declared.page.Page.TheVariants.{Health}
use Rattle.cc_status.specs.Writers.{Writes}
use Rattle.cc_status.specs.Answers.{field, form_of, common_fields, allow_fields, wrong_digits, wrong_reason}
use Rattle.cc_status.proofs.Heads.{head-texts}
use Rattle.cc_status.proofs.answer.put_wrong_head.Goals as goal

pub returns : goal.returns
returns c = let wrong = c.args.wrong in
    subst (λ (text : List ℕ). Writes c.args.out.now c.put_head.new.out text c.put_head.result)
    (head-texts (wrong_digits wrong) (wrong_reason wrong) (field (codes "Content-Type") (form_of Health)) common_fields
    (allow_fields wrong) false false c.args.size c.wrong_line.result.now
    c.form_line.result.now c.common_lines.result.now c.allow_lines.result.now c.wrong_line.ensures
    c.form_line.ensures c.common_lines.ensures c.allow_lines.ensures refl)
    c.put_head.ensures
