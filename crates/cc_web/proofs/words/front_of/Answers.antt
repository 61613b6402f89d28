use Rattle.std.proofs.Common.{nat_eq, ap, sym, ◌∙◌, take, length, arith}
use Rattle.std.proofs.Math.Seq.{take-length}
use Rattle.std.proofs.lemmas.Bool.{eq-eqb}
use Rattle.std.proofs.lemmas.List.Sums.{position_or_len_is}
use Rattle.cc_web.proofs.words.front_of.Goals as goal

pub returns-then-byte-end : goal.returns-then-byte-end
returns-then-byte-end c = let bytes = c.args.bytes.now in
    ap (λ n. take n bytes) (sym (position_or_len_is (λ b. nat_eq b c.args.end) bytes c.loop-at.at 0 (omega arith)
    c.loop-at.invariant (λ _. eq-eqb _ _ c.if-byte-end.true)))

pub returns : goal.returns
returns c = let bytes = c.args.bytes.now in
    sym (take-length bytes) ∙ ap (λ n. take n bytes) (sym (position_or_len_is (λ b. nat_eq b c.args.end) bytes
    (length bytes) 0 (omega arith) (λ k below. c.loop-at.invariant k (omega arith)) (λ over. absurd (omega arith))))
