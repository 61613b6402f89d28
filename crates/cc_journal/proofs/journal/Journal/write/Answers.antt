use Rattle.std.proofs.Common.{◌+◌, ◌≤◌, length, sym, subst, ap, arith}
use Rattle.cc_journal.specs.Batches.{events_in}
use Rattle.cc_journal.specs.contracts.journal.Journal.{the_view}
use Rattle.cc_journal.proofs.Records.{length_batch}
use Rattle.cc_journal.proofs.Steps.{StaysAtRest, behind_gate}
use Rattle.cc_journal.proofs.journal.Journal.write.Given.{Over}
use Rattle.cc_journal.proofs.journal.Journal.write.Goals as goal
use Rattle.cc_journal.proofs.journal.Journal.write.Goals.{After-write_at}

pub put_zeros-requires : goal.put_zeros-requires
put_zeros-requires g c =
    let stride : g.S.Site.STRIDE ≤ 262144 = g.S.Site.bounds_stride in
    record {
      room = omega (
        arith,
        ap length c.put_record.ensures.bytes,
        length_batch c.args.batch.now c.put_record.ensures.spelled,
        c.zeros_ahead.ensures.few,
        c.STRIDE.ensures,
        stride,
        c.put_record.ensures.grows,
        c.self.invariant,
      );
    }

-- whatever came of the write
stays : (g : Over) (c : After-write_at g) → g.S.Site.honest c.args.site.now
    → StaysAtRest g.S.Site c.args.site.now c.write_at.new.self c.args.self.now (events_in c.args.batch.now)
stays g c honest =
    let s = g.S.Site in
    let old = c.args.site.now in
    let new = c.write_at.new.self in
    let fits = subst (λ p. p.place + 1 ≤ length (s.state old p.side).bytes) (sym c.self.view_is) (c.requires.within honest) in
    subst (λ p. StaysAtRest s old new p (events_in c.args.batch.now)) c.self.view_is
    (behind_gate s old new (the_view c.self.inside) (g.met.S.Site.only_now old honest) (length c.deref.result.now) (c.write_at.ensures.time honest)
    fits (g.met.S.Site.counts_now new (c.write_at.ensures.honest.0 honest)) (events_in c.args.batch.now))

pub returns-in_err-write_at-clause-every_moment : goal.returns-in_err-write_at-clause-every_moment
returns-in_err-write_at-clause-every_moment g c honest = (stays g (goal.at.returns-in_err-write_at-clause-every_moment g c).After-write_at honest).moments

pub returns-in_err-write_at-clause-at_rest : goal.returns-in_err-write_at-clause-at_rest
returns-in_err-write_at-clause-at_rest g c honest = (stays g (goal.at.returns-in_err-write_at-clause-at_rest g c).After-write_at honest).afterwards

pub returns-clause-every_moment : goal.returns-clause-every_moment
returns-clause-every_moment g c honest = (stays g (goal.at.returns-clause-every_moment g c).After-write_at honest).moments

pub returns-clause-at_rest : goal.returns-clause-at_rest
returns-clause-at_rest g c honest = (stays g (goal.at.returns-clause-at_rest g c).After-write_at honest).afterwards
