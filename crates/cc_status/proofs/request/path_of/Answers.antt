use Rattle.std.proofs.Common.{nat_eq, ap, sym, ◌∙◌, take, length, arith}
use Rattle.std.proofs.Math.Seq.{take-length}
use Rattle.std.proofs.lemmas.Bool.{eq-eqb}
use Rattle.std.proofs.lemmas.List.Sums.{position_or_len_is}
use Rattle.cc_status.proofs.request.path_of.Goals as goal

pub returns-then-byte-eq63 : goal.returns-then-byte-eq63
returns-then-byte-eq63 c = let target = c.args.target.now in
    ap (λ n. take n target) (sym (position_or_len_is (λ b. nat_eq b 63) target c.loop-at.at 0 (omega arith)
    c.loop-at.invariant (λ _. eq-eqb _ _ c.if-byte-eq63.true)))

pub returns : goal.returns
returns c = let target = c.args.target.now in
    sym (take-length target) ∙ ap (λ n. take n target) (sym (position_or_len_is (λ b. nat_eq b 63) target
    (length target) 0 (omega arith) (λ k below. c.loop-at.invariant k (omega arith)) (λ over. absurd (omega arith))))
