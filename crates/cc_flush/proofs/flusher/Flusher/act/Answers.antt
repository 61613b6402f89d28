use Rattle.std.proofs.Common.{sym, subst}
use Rattle.std.proofs.lemmas.Result.{err_from_is_err_and}
use Rattle.cc_flush.specs.Lives.{HasDone, FailsIn, IsTurnLawful}
use Rattle.cc_flush.proofs.LifeSteps.{put_advances, turn_advances, turn_given_up}
use Rattle.cc_flush.proofs.flusher.Flusher.act.Goals as goal

pub returns-in_err-flushed-in-Turn-clause-acts : goal.returns-in_err-flushed-in-Turn-clause-acts
returns-in_err-flushed-in-Turn-clause-acts g c =
    let old = c.args.self.now in
    let new = c.flush-flushed.new.self in
    let fault = c.in_err-flushed-in-Turn.field-0.0.fault in
    let p = err_from_is_err_and c.from_residual.result c.from_residual.ensures.1 in
    rw (p.1, p.2) (subst (λ a. FailsIn g.S.Site a old new fault) (sym c.in-Turn.is)
    (turn_given_up g.S.Site old new c.in-Turn.batch fault (c.in_err-flushed-in-Turn.ensures.flushed c.requires.goes_on)))

pub returns-in_ok-flushed-in-Turn-clause-acts : goal.returns-in_ok-flushed-in-Turn-clause-acts
returns-in_ok-flushed-in-Turn-clause-acts g c =
    let old = c.args.self.now in
    let lawful = subst (IsTurnLawful old.twin) c.in-Turn.is c.requires.lawful in
    subst (λ a. HasDone g.S.Site a old c.flush-flushed.new.self) (sym c.in-Turn.is)
    (turn_advances g.S.Site old c.flush-flushed.new.self c.in-Turn.batch lawful.1 (c.in_ok-flushed-in-Turn.ensures.flushed c.requires.goes_on), tt)

pub returns-in_ok-resend-in-Resend-clause-acts : goal.returns-in_ok-resend-in-Resend-clause-acts
returns-in_ok-resend-in-Resend-clause-acts g c =
    subst (λ a. HasDone g.S.Site a c.args.self.now c.resend.new.self) (sym c.in-Resend.is)
    (put_advances g.S.Site _ _ _ c.requires.owes c.requires.goes_on (c.resend.ensures.puts c.requires.goes_on), tt)

pub returns-in_ok-again-in-Again-clause-acts : goal.returns-in_ok-again-in-Again-clause-acts
returns-in_ok-again-in-Again-clause-acts g c =
    subst (λ a. HasDone g.S.Site a c.args.self.now c.again.new.self) (sym c.in-Again.is)
    (put_advances g.S.Site _ _ _ c.requires.owes c.requires.goes_on (c.again.ensures.puts c.requires.goes_on), tt)

pub returns-in_ok-reack-in-Reack-clause-acts : goal.returns-in_ok-reack-in-Reack-clause-acts
returns-in_ok-reack-in-Reack-clause-acts g c =
    subst (λ a. HasDone g.S.Site a c.args.self.now c.reack.new.self) (sym c.in-Reack.is)
    (put_advances g.S.Site _ _ _ c.requires.owes c.requires.goes_on (c.reack.ensures.puts c.requires.goes_on), tt)

pub returns-in_err-checkpoint_unless_spent-in-Checkpoint-clause-acts : goal.returns-in_err-checkpoint_unless_spent-in-Checkpoint-clause-acts
returns-in_err-checkpoint_unless_spent-in-Checkpoint-clause-acts g c =
    let failed = c.in_err-checkpoint_unless_spent-in-Checkpoint in
    let r = c.from_residual-in_err-checkpoint_unless_spent-in-Checkpoint in
    let p = err_from_is_err_and r.result r.ensures.1 in
    rw (p.1, p.2)
    (subst (λ a. FailsIn g.S.Site a c.args.self.now c.checkpoint_unless_spent.new.self failed.field-0.0.fault) (sym c.in-Checkpoint.is) failed.ensures.acts)

pub returns-in_ok-checkpoint_unless_spent-in-Checkpoint-clause-acts : goal.returns-in_ok-checkpoint_unless_spent-in-Checkpoint-clause-acts
returns-in_ok-checkpoint_unless_spent-in-Checkpoint-clause-acts g c =
    subst (λ a. HasDone g.S.Site a c.args.self.now c.checkpoint_unless_spent.new.self) (sym c.in-Checkpoint.is)
    c.in_ok-checkpoint_unless_spent-in-Checkpoint.ensures.acts
