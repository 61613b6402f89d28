use Rattle.cc_site.specs.Reads.{bytes_of}
use Rattle.cc_site.specs.Moments.{Possible}
use Rattle.cc_site.specs.Runs.{started, rests}
use Rattle.cc_flush.proofs.FoundSides.{same_bytes, same_fails, if_found}
use Rattle.cc_flush.proofs.opening.open_sides.Goals as goal

pub returns-clause-failed : goal.returns-clause-failed
returns-clause-failed g c honest =
    let s = g.S.Site in
    let old = c.args.site.now in
    let mid = c.settle_sides.new.site in
    same_fails (bytes_of s mid) (bytes_of s old) (same_bytes (s.state old) (s.state mid) (c.in_ok-settle_sides.ensures.value honest)) c.read_sides.result
    (c.read_sides.ensures.failed (c.settle_sides.ensures.honest.0 honest))

pub returns-clause-every_moment : goal.returns-clause-every_moment
returns-clause-every_moment g c honest =
    let s = g.S.Site in
    let old = c.args.site.now in
    let mid = c.settle_sides.new.site in
    let P = Possible (s.state old) (s.sent old) in
    rests s old mid c.read_sides.new.site P
    (rests s old old mid P (started s old P (g.met.S.Site.only_now old honest)) (c.settle_sides.ensures.time honest))
    (c.read_sides.ensures.reads.no_moment (c.settle_sides.ensures.honest.0 honest))

pub returns-clause-stands : goal.returns-clause-stands
returns-clause-stands g c honest =
    let s = g.S.Site in
    let h = c.settle_sides.ensures.honest.0 honest in
    if_found c.read_sides.result (s.state c.args.site.now) (s.state c.settle_sides.new.site) (s.state c.read_sides.new.site)
    (c.in_ok-settle_sides.ensures.value honest) (c.read_sides.ensures.reads.keeps_state h) (c.read_sides.ensures.found h)
