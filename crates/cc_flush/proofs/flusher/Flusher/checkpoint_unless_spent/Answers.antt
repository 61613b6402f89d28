use Rattle.std.proofs.Common.{subst}
use Rattle.cc_flush.specs.Checkpoints.{MoveStops}
use Rattle.cc_flush.proofs.LifeSteps.{move_done, spent_done, move_given_up}
use Rattle.cc_flush.proofs.flusher.Flusher.checkpoint_unless_spent.Goals as goal

pub returns-in-Ok-clause-acts : goal.returns-in-Ok-clause-acts
returns-in-Ok-clause-acts g c =
    let e = c.in-Ok.ensures in
    let none = c.requires.goes_on in
    move_done g.S.Site c.args.self.now c.checkpoint.new.self
    (record { twin = e.same_twin; owes = e.owes; same_honest = e.honest; told = e.tells; good = λ h. e.good h none })
    (e.moves none) (λ spent. let is = (e.spent none spent).0 in cc)

pub returns-in-Err-Spent-clause-acts : goal.returns-in-Err-Spent-clause-acts
returns-in-Err-Spent-clause-acts g c =
    let e = c.in-Err-Spent.ensures in
    let none = c.requires.goes_on in
    let stops = MoveStops g.S.Site c.args.self.now c.checkpoint.new.self in
    spent_done g.S.Site c.args.self.now c.checkpoint.new.self
    (record { twin = e.same_twin; owes = e.owes; same_honest = e.honest; told = e.tells; good = λ h. e.good h none })
    none (λ less. subst stops c.in-Err-Spent.field-0-is (e.moves none less)) (λ spent. (e.spent none spent).1)

pub returns-in-Err-Failed-clause-acts : goal.returns-in-Err-Failed-clause-acts
returns-in-Err-Failed-clause-acts g c =
    let e = c.in-Err-Failed.ensures in
    let none = c.requires.goes_on in
    let stops = MoveStops g.S.Site c.args.self.now c.checkpoint.new.self in
    let failed = c.in-Err-Failed.field-0-is in
    move_given_up g.S.Site c.args.self.now c.checkpoint.new.self c.in-Err-Failed.failed.fault
    (record { twin = e.same_twin; owes = e.owes; same_honest = e.honest; told = e.tells; good = λ h. e.good h none })
    (λ less. subst stops failed (e.moves none less)) (λ spent. let is = (e.spent none spent).0 in cc)
