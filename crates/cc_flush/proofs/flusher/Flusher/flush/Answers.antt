use Rattle.std.proofs.Common.{ap, subst}
use Rattle.cc_journal.specs.Batches.{events_in}
use Rattle.cc_flush.proofs.CommitSteps.{call_keeps_sides, flushed, Released}
use Rattle.cc_flush.proofs.flusher.Flusher.flush.Goals as goal

pub returns-in-Err-clause-flushed : goal.returns-in-Err-clause-flushed
returns-in-Err-clause-flushed g c none =
    let e = c.in-Err.ensures in
    record {
      twin = e.same_twin;
      owes = e.owes;
      at = e.kept.0;
      used = e.kept.1;
      failed = e.failed;
      same_generation = e.same_generation;
      same_honest = e.honest;
      told = e.tells;
      moments = λ h. e.every_moment h none;
      sides = λ h. call_keeps_sides g.S.Site c.args.self.now (events_in c.args.batch.now) c.commit.new.self.site (e.every_moment h none);
      device = (e.device none, e.count none);
    }

pub returns-in-Ok-clause-flushed : goal.returns-in-Ok-clause-flushed
returns-in-Ok-clause-flushed g c none =
    let e = c.in-Ok.ensures in
    let r = c.release.ensures in
    flushed g.S.Site c.args.self.now c.commit.new.self c.release.new.self c.args.batch.now none
    (record {
      same_twin = e.same_twin;
      goes_on = e.goes_on;
      same_side = ap (λ p. p.side) e.moved;
      same_generation = e.same_generation;
      same_honest = e.honest;
      same_told = e.tells;
      same_failures = e.count none;
      every_moment = e.every_moment;
      at_rest = e.at_rest;
    })
    (subst (λ b. Released g.S.Site b c.commit.new.self c.release.new.self) e.landed (record {
      twin = r.twin;
      owes = r.owes;
      goes_on = r.same.3;
      at = r.same.0;
      same_generation = r.same.1;
      same_honest = r.honest;
      told = r.told;
      same_failures = r.count;
      same_sides = r.same_sides;
      contents = r.contents;
      good = r.good;
    }))
