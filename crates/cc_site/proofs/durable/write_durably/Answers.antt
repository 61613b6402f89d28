use Rattle.std.proofs.Common.{length}
use Rattle.cc_site.specs.Sides.{touch}
use Rattle.cc_site.specs.SideLaws.{touch_more}
use Rattle.cc_site.specs.Runs.{rests}
use Rattle.cc_site.proofs.OneCall.{during}
use Rattle.cc_site.proofs.durable.write_durably.Goals as goal

pub returns-in_err-write_at-clause-every_moment : goal.returns-in_err-write_at-clause-every_moment
returns-in_err-write_at-clause-every_moment g c honest =
    let s = g.S.Site in
    let old = c.args.site.now in
    let side = s.state old c.args.side in
    during s old c.write_at.new.self c.args.side (touch side c.args.place (length c.args.bytes.now)) (touch_more side c.args.place (length c.args.bytes.now))
    (g.met.S.Site.only_now old honest) (c.write_at.ensures.time honest)

pub returns-in_err-sync-clause-every_moment : goal.returns-in_err-sync-clause-every_moment
returns-in_err-sync-clause-every_moment g c honest =
    let s = g.S.Site in
    let old = c.args.site.now in
    let side = s.state old c.args.side in
    rests s old c.write_at.new.self c.sync.new.self _
    (during s old c.write_at.new.self c.args.side (touch side c.args.place (length c.args.bytes.now)) (touch_more side c.args.place (length c.args.bytes.now))
    (g.met.S.Site.only_now old honest) (c.write_at.ensures.time honest))
    (c.sync.ensures.time (c.write_at.ensures.honest.0 honest))

pub returns-clause-every_moment : goal.returns-clause-every_moment
returns-clause-every_moment g c honest =
    let s = g.S.Site in
    let old = c.args.site.now in
    let side = s.state old c.args.side in
    rests s old c.write_at.new.self c.sync.new.self _
    (during s old c.write_at.new.self c.args.side (touch side c.args.place (length c.args.bytes.now)) (touch_more side c.args.place (length c.args.bytes.now))
    (g.met.S.Site.only_now old honest) (c.write_at.ensures.time honest))
    (c.sync.ensures.time (c.write_at.ensures.honest.0 honest))
