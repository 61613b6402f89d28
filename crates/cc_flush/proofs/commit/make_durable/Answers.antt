use Rattle.std.proofs.Common.{◌++◌, length}
use Rattle.cc_site.specs.Runs.{joined}
use Rattle.cc_journal.specs.Batches.{events_in}
use Rattle.cc_journal.specs.Journals.{IsGood}
use Rattle.cc_flush.proofs.commit.make_durable.Goals as goal

pub returns-clause-every_moment : goal.returns-clause-every_moment
returns-clause-every_moment g c honest generation start events opening led =
    let appended = rw (c.write.ensures.same, c.in_ok-flight.ensures.flight) at c.append.ensures.every_moment in
    joined g.S.Site c.args.site.now c.write.new.site c.append.new.site (IsGood start (events ++ events_in c.args.batch.now) (length events) opening)
    (c.write.ensures.every_moment honest generation start events opening led.rests)
    (appended (c.write.ensures.honest.0 honest) (c.in_ok-flight.ensures.behind honest) generation start events opening
    (record { rests = c.write.ensures.at_rest honest generation start events opening led.rests; lawful = led.lawful }))

pub returns-clause-at_rest : goal.returns-clause-at_rest
returns-clause-at_rest g c honest generation start events opening led =
    let appended = rw (c.write.ensures.same, c.in_ok-flight.ensures.flight) at c.append.ensures.at_rest in
    appended (c.write.ensures.honest.0 honest) (c.in_ok-flight.ensures.behind honest) generation start events opening
    (record { rests = c.write.ensures.at_rest honest generation start events opening led.rests; lawful = led.lawful })

pub returns-in_err-flight-clause-every_moment : goal.returns-in_err-flight-clause-every_moment
returns-in_err-flight-clause-every_moment g c honest generation start events opening led =
    c.write.ensures.every_moment honest generation start events opening led.rests
