use Rattle.std.proofs.Common.{◌≡◌, ℕ, ◌<◌, ◌^◌, List, subst, rules, arith}
use Rattle.std.specs.Prelude.{MatchOption, IfSome}
use Rattle.std.specs.Fmt.{decimal}
use Rattle.cc_command_line.specs.Words.{NoNumber}
use Rattle.cc_web.proofs.Numbers.{is_number, no_text}
use Rattle.cc_web.proofs.words.number_in.Goals as goal

pub returns-in-Ok : goal.returns-in-Ok
returns-in-Ok c =
    let small : IfSome c.number.result (λ n. n < 2 ^ 64) = search rules in
    is_number 64 c.args.bytes.now c.number.result (omega arith) small
    (subst (λ (w : List ℕ). MatchOption c.number.result (NoNumber 64 w) (λ n. w ≡ decimal n)) c.in-Ok.ensures.cases.0 c.number.ensures)

pub returns-in-Err : goal.returns-in-Err
returns-in-Err c = no_text 64 c.args.bytes.now (omega arith) c.in-Err.ensures.cases.0
