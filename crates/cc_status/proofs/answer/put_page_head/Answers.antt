use Rattle.std.proofs.Common.{List, ℕ, codes, subst}
use Rattle.cc_status.specs.Writers.{Writes}
use Rattle.cc_status.specs.Answers.{field, form_of, common_fields, policy_fields, is_stream, digits_of, reason_of}
use Rattle.cc_status.proofs.Heads.{head-texts}
use Rattle.cc_status.proofs.answer.put_page_head.Goals as goal

pub returns : goal.returns
returns c = let page = c.args.page in let outcome = c.args.outcome in
    subst (λ (text : List ℕ). Writes c.args.out.now c.put_head.new.out text c.put_head.result)
    (head-texts (digits_of outcome) (reason_of outcome) (field (codes "Content-Type") (form_of page)) common_fields
    (policy_fields page) (is_stream page) c.is_stream.result c.args.size c.outcome_line.result.now
    c.form_line.result.now c.common_lines.result.now c.policy_lines.result.now c.outcome_line.ensures
    c.form_line.ensures c.common_lines.ensures c.policy_lines.ensures c.is_stream.ensures)
    c.put_head.ensures
