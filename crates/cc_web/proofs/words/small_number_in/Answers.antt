use Rattle.std.proofs.Common.{◌≡◌, ℕ, ◌<◌, ◌^◌, List, subst, rules, arith}
use Rattle.std.specs.Prelude.{MatchOption, IfSome}
use Rattle.std.specs.Fmt.{decimal}
use Rattle.cc_command_line.specs.Words.{NoNumber}
use Rattle.cc_web.proofs.Numbers.{is_number, no_text}
use Rattle.cc_web.proofs.words.small_number_in.Goals as goal

pub returns-in-Ok : goal.returns-in-Ok
returns-in-Ok c =
    let small : IfSome c.small_number.result (λ n. n < 2 ^ 32) = search rules in
    is_number 32 c.args.bytes.now c.small_number.result (omega arith) small
    (subst (λ (w : List ℕ). MatchOption c.small_number.result (NoNumber 32 w) (λ n. w ≡ decimal n)) c.in-Ok.ensures.cases.0 c.small_number.ensures)

pub returns-in-Err : goal.returns-in-Err
returns-in-Err c = no_text 32 c.args.bytes.now (omega arith) c.in-Err.ensures.cases.0
