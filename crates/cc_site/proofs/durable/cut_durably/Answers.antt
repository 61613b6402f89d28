use Rattle.cc_site.specs.Sides.{shift}
use Rattle.cc_site.specs.SideLaws.{shift_more}
use Rattle.cc_site.specs.Runs.{rests}
use Rattle.cc_site.proofs.OneCall.{during}
use Rattle.cc_site.proofs.durable.cut_durably.Goals as goal

pub returns-in_err-cut-clause-every_moment : goal.returns-in_err-cut-clause-every_moment
returns-in_err-cut-clause-every_moment g c honest =
    let s = g.S.Site in
    let old = c.args.site.now in
    let side = s.state old c.args.side in
    during s old c.cut.new.self c.args.side (shift side c.args.len) (shift_more side c.args.len)
    (g.met.S.Site.only_now old honest) (c.cut.ensures.time honest)

pub returns-in_err-sync-clause-every_moment : goal.returns-in_err-sync-clause-every_moment
returns-in_err-sync-clause-every_moment g c honest =
    let s = g.S.Site in
    let old = c.args.site.now in
    let side = s.state old c.args.side in
    rests s old c.cut.new.self c.sync.new.self _
    (during s old c.cut.new.self c.args.side (shift side c.args.len) (shift_more side c.args.len)
    (g.met.S.Site.only_now old honest) (c.cut.ensures.time honest))
    (c.sync.ensures.time (c.cut.ensures.honest.0 honest))

pub returns-clause-every_moment : goal.returns-clause-every_moment
returns-clause-every_moment g c honest =
    let s = g.S.Site in
    let old = c.args.site.now in
    let side = s.state old c.args.side in
    rests s old c.cut.new.self c.sync.new.self _
    (during s old c.cut.new.self c.args.side (shift side c.args.len) (shift_more side c.args.len)
    (g.met.S.Site.only_now old honest) (c.cut.ensures.time honest))
    (c.sync.ensures.time (c.cut.ensures.honest.0 honest))
