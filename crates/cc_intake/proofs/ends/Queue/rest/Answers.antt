use Rattle.std.proofs.Common.{ap}
use Rattle.cc_intake.proofs.Moves.{merges}
use Rattle.cc_intake.proofs.ends.Queue.rest.Goals as goal

pub absorb-requires-clause-rule : goal.absorb-requires-clause-rule
absorb-requires-clause-rule g c = merges g.L.Life.opening g.L.Life.reached g.L.Life.taken _ _ _ _ (ap (λ v. v.pushes) c.producer.invariant.2)
    (ap (λ v. v.pops) c.consumer.invariant.2)
