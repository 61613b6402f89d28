use Rattle.std.proofs.Common.{sym, subst}
use Rattle.cc_flush.proofs.RearmedSides.{opened_stays, moved_found, moved_stays}
use Rattle.cc_flush.proofs.Reopened.{anew_after}
use Rattle.cc_flush.specs.Reopenings.{StaysDurable}
use Rattle.cc_site.specs.Reads.{bytes_of}
use Rattle.cc_flush.proofs.AnewOpenings.{fails_alike}
use Rattle.cc_flush.proofs.reopen.open_anew.Goals as goal

pub returns-in-Ok-write_anew-clause-anew : goal.returns-in-Ok-write_anew-clause-anew
returns-in-Ok-write_anew-clause-anew g c honest =
    let found = c.arm_again.ensures.honest.0 honest in
    anew_after g.S.Site c.in-Ok.opened.0 c.write_anew.new.engine (c.in-Ok.ensures.counted found).side c.write_anew.ensures.opened c.write_anew.ensures.twin
    (c.in-Ok.ensures.outlet.keeps_honesty.0 found) c.in-Ok-write_anew.ensures.moves

pub returns-in-Ok-write_anew-clause-good : goal.returns-in-Ok-write_anew-clause-good
returns-in-Ok-write_anew-clause-good g c h =
    let met = g.met.S.Site in
    let mid = c.arm_again.new.site in
    let e = c.in-Ok.opened.0 in
    let found = c.arm_again.ensures.honest.0 h in
    let kept = c.in-Ok.ensures.outlet.keeps_honesty.0 found in
    let first = c.arm_again.ensures.good h in
    moved_stays g.S.Site c.one_node.ensures.node c.args.site mid e found met.may_read first c.in-Ok.ensures.outlet.same (c.in-Ok.ensures.settled found)
    (c.in-Ok.ensures.stands found) c.write_anew.new.engine
    (opened_stays g.S.Site c.args.site mid e.site first (c.in-Ok.ensures.every_moment found) (met.counts_now e.site kept))
    c.write_anew.ensures.twin (c.write_anew.ensures.good kept)

pub returns-in-Ok-write_anew-clause-node : goal.returns-in-Ok-write_anew-clause-node
returns-in-Ok-write_anew-clause-node g c h =
    let met = g.met.S.Site in
    let mid = c.arm_again.new.site in
    let e = c.in-Ok.opened.0 in
    let found = c.arm_again.ensures.honest.0 h in
    let kept = c.in-Ok.ensures.outlet.keeps_honesty.0 found in
    let first = c.arm_again.ensures.good h in
    moved_found g.S.Site c.one_node.ensures.node c.args.site mid e found met.may_read first c.in-Ok.ensures.outlet.same (c.in-Ok.ensures.settled found)
    (c.in-Ok.ensures.stands found) c.write_anew.new.engine
    (opened_stays g.S.Site c.args.site mid e.site first (c.in-Ok.ensures.every_moment found) (met.counts_now e.site kept))
    c.write_anew.ensures.twin (c.write_anew.ensures.good kept)

pub returns-in-Err-open-clause-good : goal.returns-in-Err-open-clause-good
returns-in-Err-open-clause-good g c h =
    let mid = c.arm_again.new.site in
    let found = c.arm_again.ensures.honest.0 h in
    let site = c.in-Err-open.back.site in
    opened_stays g.S.Site c.args.site mid site (c.arm_again.ensures.good h) (c.in-Err-open.ensures.every_moment found)
    (g.met.S.Site.counts_now site (c.in-Err-open.ensures.outlet.keeps_honesty.0 found))

pub returns-in-Err-write_anew-clause-good : goal.returns-in-Err-write_anew-clause-good
returns-in-Err-write_anew-clause-good g c h =
    let met = g.met.S.Site in
    let mid = c.arm_again.new.site in
    let e = c.in-Ok.opened.0 in
    let found = c.arm_again.ensures.honest.0 h in
    let kept = c.in-Ok.ensures.outlet.keeps_honesty.0 found in
    let first = c.arm_again.ensures.good h in
    subst (StaysDurable g.S.Site c.args.site) (sym c.close.ensures)
    (moved_stays g.S.Site c.one_node.ensures.node c.args.site mid e found met.may_read first c.in-Ok.ensures.outlet.same (c.in-Ok.ensures.settled found)
    (c.in-Ok.ensures.stands found) c.write_anew.new.engine
    (opened_stays g.S.Site c.args.site mid e.site first (c.in-Ok.ensures.every_moment found) (met.counts_now e.site kept))
    c.write_anew.ensures.twin (c.write_anew.ensures.good kept))

pub returns-in-Err-open-clause-faults : goal.returns-in-Err-open-clause-faults
returns-in-Err-open-clause-faults g c h =
    fails_alike (bytes_of g.S.Site c.args.site) (bytes_of g.S.Site c.arm_again.new.site) (c.in_default.ensures.same h)
    c.in-Err-open.back.fault (c.in-Err-open.ensures.faults (c.arm_again.ensures.honest.0 h))
