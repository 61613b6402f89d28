use Rattle.std.proofs.Common.{subst, sym, ◌∷◌, []}
use Rattle.cc_messages.specs.declared.answer.Answer.{Answer}
use Rattle.cc_wire.specs.Answers.{answer_spelling}
use Rattle.cc_wire.specs.Writers.{Writes}
use Rattle.cc_wire.proofs.Writes.{writes_then}
use Rattle.cc_wire.proofs.answer.put_answer.Goals as goal

pub returns-in_ok-put_u8-in-Seen-clause-writes : goal.returns-in_ok-put_u8-in-Seen-clause-writes
returns-in_ok-put_u8-in-Seen-clause-writes c =
    subst (λ (a : Answer). Writes c.args.out.now c.put_view.new.out (answer_spelling a) c.put_view.result) (sym c.in-Seen.is)
    (writes_then c.args.out.now c.put_u8-in-Seen.new.out c.put_view.new.out (2 ∷ []) _ c.put_view.result c.in_ok-put_u8-in-Seen.ensures
    c.put_view.ensures.writes)

pub returns-in_ok-put_u8-in-Set-clause-writes : goal.returns-in_ok-put_u8-in-Set-clause-writes
returns-in_ok-put_u8-in-Set-clause-writes c =
    subst (λ (a : Answer). Writes c.args.out.now c.put_number_list.new.out (answer_spelling a) c.put_number_list.result) (sym c.in-Set.is)
    (writes_then c.args.out.now c.put_u8-in-Set.new.out c.put_number_list.new.out (5 ∷ []) _ c.put_number_list.result c.in_ok-put_u8-in-Set.ensures
    c.put_number_list.ensures.writes)
