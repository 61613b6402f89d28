use Rattle.std.proofs.Common.{sym, ◌∙◌}
use Rattle.cc_wire.proofs.AnswerFormat.{answer_spelled}
use Rattle.cc_wire.proofs.Whole.{only_spelling}
use Rattle.cc_wire.proofs.answer.one_spelling_of_answers.Goals as goal

pub returns : goal.returns
returns c = record { one = only_spelling answer_spelled; same = λ a b x p q. p.spelled ∙ sym q.spelled }
