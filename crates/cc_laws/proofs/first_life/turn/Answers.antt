use Rattle.std.proofs.Common.{◌<◌, ◌≤◌, [], length, arith}
use Rattle.cc_journal.specs.Batches.{events_in}
use Rattle.cc_journal.specs.Journals.{room_limit}
use Rattle.cc_laws.proofs.FirstLives.{batch_lawful, good_leaves, failed_leaves, failed_moments, rest_moments, turned, turned_moments}
use Rattle.cc_laws.proofs.first_life.turn.Goals as goal

pub returns-then-not-room-clause-stops : goal.returns-then-not-room-clause-stops
returns-then-not-room-clause-stops g c opening good =
    let engine = c.args.engine.now in
    let bytes = (g.S.Site.state engine.site engine.at.side).bytes in
    let no_room : length bytes < room_limit → ⊥ =
    λ less. let has = (c.room.ensures.used c.requires.honest c.requires.goes_on).1 less in let none = c.if-not-room.true in cc in
    let long : room_limit ≤ length bytes = omega (arith, no_room) in
    ((engine.at.side, long), good_leaves g.S.Site engine.site engine.twin [] opening tt good)

pub returns-in-Ok-clause-lived : goal.returns-in-Ok-clause-lived
returns-in-Ok-clause-lived g c tells opening good =
    let e = c.in-Ok.ensures in
    let put = c.release.ensures.good (e.honest.0 c.requires.honest) tells in
    turned g.S.Site c.args.engine.now opening good c.commit.new.self c.release.new.self _ c.args.batch.now e.landed e.same_twin
    (e.at_rest c.requires.honest c.requires.goes_on) put c.requires.lawful

pub returns-in-Err-clause-stops : goal.returns-in-Err-clause-stops
returns-in-Err-clause-stops g c opening good =
    let new = c.commit.new.self.site in
    let e = c.in-Err.ensures in
    let old = c.args.engine.now in
    failed_leaves g.S.Site old opening good new (events_in c.args.batch.now) (batch_lawful old.twin c.args.batch.now c.requires.lawful)
    (g.met.S.Site.counts_now new (e.honest.0 c.requires.honest)) (e.every_moment c.requires.honest c.requires.goes_on)

pub returns-then-not-room-clause-moments : goal.returns-then-not-room-clause-moments
returns-then-not-room-clause-moments g c opening good =
    let engine = c.args.engine.now in
    rest_moments g.S.Site engine.site engine.twin (events_in c.args.batch.now) opening (g.met.S.Site.only_now engine.site c.requires.honest) good

pub returns-in-Ok-clause-moments : goal.returns-in-Ok-clause-moments
returns-in-Ok-clause-moments g c opening good tells =
    let e = c.in-Ok.ensures in
    let put = c.release.ensures.good (e.honest.0 c.requires.honest) tells in
    turned_moments g.S.Site c.args.engine.now opening good c.commit.new.self c.release.new.self _ c.args.batch.now e.landed e.same_twin
    (e.at_rest c.requires.honest c.requires.goes_on) put (e.every_moment c.requires.honest c.requires.goes_on)

pub returns-in-Err-clause-moments : goal.returns-in-Err-clause-moments
returns-in-Err-clause-moments g c opening good =
    failed_moments g.S.Site c.args.engine.now opening good c.commit.new.self.site (events_in c.args.batch.now)
    (c.in-Err.ensures.every_moment c.requires.honest c.requires.goes_on)
