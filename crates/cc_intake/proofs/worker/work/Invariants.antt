use Rattle.std.proofs.Common.{◌≡◌, ◌+◌, List}
use Rattle.cc_intake.specs.Talks.{Answer, IsAnswer, Spoke, places_of, PlacesRise}
use Rattle.cc_intake.proofs.worker.work.Given as goal

abbrev pub invariant-loop : goal.invariant-loop
invariant-loop g l = (answers : List Answer) × Spoke g.S.Source.gives g.S.Source.hears (IsAnswer g.L.Life.opening g.L.Life.accepted g.L.Life.taken)
    l.fn.source answers l.source × (l.share ≡ l.fn.share + places_of answers) × PlacesRise l.fn.share answers
