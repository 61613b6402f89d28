use Rattle.std.proofs.Common.{◌≡◌, ◌+◌, length}
use Rattle.std.specs.Prelude.{sum}
use Rattle.cc_intake.proofs.intake.added.Given as goal

abbrev pub invariant-loop-share : goal.invariant-loop-share
invariant-loop-share g l =
    (l.told ≡ sum l.yielded) × (l.all.amount ≡ l.told) × (l.all.parts ≡ l.fn.all.parts + length l.yielded) × (l.book.total ≡ l.fn.book.total)
