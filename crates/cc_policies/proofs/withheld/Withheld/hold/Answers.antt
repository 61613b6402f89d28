use Rattle.std.proofs.Common.{refl, arith}
use Rattle.std.proofs.lemmas.List.{append-nil}
use Rattle.cc_policies.specs.Withheld.{skipped}
use Rattle.cc_policies.proofs.WithheldLaws.{skipped_length}
use Rattle.cc_policies.proofs.withheld.Withheld.hold.Goals as goal

pub returns-then-last-first : goal.returns-then-last-first
returns-then-last-first c = record {
  no_post = refl;
  covers = append-nil (skipped c.args.run);
  waits = λ few. absurd (omega (arith, few, skipped_length c.args.run, c.if-last-first.true, c.last.ensures.last, c.first.ensures.first));
}
