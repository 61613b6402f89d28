use Rattle.std.proofs.Common.{refl, subst, lit≤}
use Rattle.std.proofs.lemmas.Bool.{false≢true}
use Rattle.cc_command_line.specs.Words.{IsPlain}
use Rattle.cc_command_line.proofs.Digits.{not_plain, plain_parsed}
use Rattle.cc_command_line.proofs.numbers.number.Goals as goal

pub returns-then-not-is_plain : goal.returns-then-not-is_plain
returns-then-not-is_plain c = not_plain 64 c.args.word.now (lit≤ tt) (subst (λ w. ¬ (IsPlain w)) c.as_bytes.ensures.value
    (λ plain. false≢true (c.if-not-is_plain.ensures.1 plain)))

pub returns : goal.returns
returns c = rw c.ok.ensures.value (plain_parsed 64 c.args.word.now c.parse.result (lit≤ tt)
    (subst IsPlain c.as_bytes.ensures.value (c.if-not-is_plain.ensures.0 refl)) c.parse.ensures.value.0)
