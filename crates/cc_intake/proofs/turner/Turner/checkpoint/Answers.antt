use Rattle.std.proofs.Common.{◌≡◌, ◌<◌, subst}
use Rattle.std.specs.Prelude.{None, MatchResult}
use Rattle.cc_views.specs.Limits.{counter_limit}
use Rattle.cc_journal.specs.Journals.{StaysGood}
use Rattle.cc_flush.specs.Commits.{LeadsTo}
use Rattle.cc_flush.specs.Checkpoints.{Moves, MoveStops}
use Rattle.cc_intake.proofs.turner.Turner.checkpoint.Goals as goal

pub returns-clause-moves : goal.returns-clause-moves
returns-clause-moves g c =
    let s = g.S.Site in
    let new = c.checkpoint.new.self in
    subst (λ t. t.engine.failed ≡ None → t.engine.generation < counter_limit → MatchResult c.checkpoint.result (λ _. Moves s t.engine new)
    (MoveStops s t.engine new)) c.self.view_is c.checkpoint.ensures.moves

pub returns-clause-good : goal.returns-clause-good
returns-clause-good g c =
    let s = g.S.Site in
    subst (λ t. s.honest t.engine.site → t.engine.failed ≡ None → StaysGood s (LeadsTo s t.engine) t.engine.site c.checkpoint.new.self.site)
    c.self.view_is c.checkpoint.ensures.good
