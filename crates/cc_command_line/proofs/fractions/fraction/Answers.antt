use Rattle.cc_command_line.proofs.Slash.{no_slash, not_before, not_behind}
use Rattle.cc_command_line.proofs.fractions.fraction.Goals as goal

pub returns-in_err-num : goal.returns-in_err-num
returns-in_err-num c = rw c.from_residual.ensures (no_slash c.args.word.now c.split_once.result c.split_once.ensures.cases c.in_err-num.was)

pub returns-in_err-small_number : goal.returns-in_err-small_number
returns-in_err-small_number c = rw c.from_residual-in_err-small_number.ensures (not_before c.args.word.now c.split_once.result c.in_ok-num.num
    c.in_ok-num.den c.split_once.ensures.cases c.in_ok-num.was c.in_err-small_number.ensures)

pub returns-in_err-small_number-2 : goal.returns-in_err-small_number-2
returns-in_err-small_number-2 c = rw c.from_residual-in_err-small_number-2.ensures (not_behind c.args.word.now c.split_once.result c.in_ok-num.num
    c.in_ok-num.den c.split_once.ensures.cases c.in_ok-num.was c.in_err-small_number-2.ensures)
