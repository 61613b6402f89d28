use Rattle.std.proofs.Common.{length, arith}
use Rattle.cc_checkpoint.proofs.BehindRuns.{cut_behind, then_written, cut_there, written_front}
use Rattle.cc_checkpoint.proofs.checkpoint.begin_image.Goals as goal

pub write_at-requires : goal.write_at-requires
write_at-requires g c still =
    let s = g.S.Site in
    let honest = c.cut.ensures.honest.1 still in
    cut_there (s.state c.args.site.now c.args.side) (s.state c.cut.new.self c.args.side) (c.requires.there honest) (c.in_ok-cut.ensures.value honest)

pub returns-in_err-cut-clause-every_moment : goal.returns-in_err-cut-clause-every_moment
returns-in_err-cut-clause-every_moment g c honest =
    let old = c.args.site.now in
    cut_behind g.S.Site c.args.side old c.cut.new.self (g.met.S.Site.only_now old honest) (c.requires.there honest) (c.cut.ensures.time honest)

pub returns-clause-every_moment : goal.returns-clause-every_moment
returns-clause-every_moment g c honest =
    let s = g.S.Site in
    let side = c.args.side in
    let old = c.args.site.now in
    let mid = c.cut.new.self in
    let still = c.cut.ensures.honest.0 honest in
    then_written s side old mid c.write_at.new.self 1 (length c.args.front.now)
    (cut_behind s side old mid (g.met.S.Site.only_now old honest) (c.requires.there honest) (c.cut.ensures.time honest))
    (g.met.S.Site.counts_now mid still) (g.met.S.Site.only_now mid still) (omega arith)
    (cut_there (s.state old side) (s.state mid side) (c.requires.there honest) (c.in_ok-cut.ensures.value honest)) (c.write_at.ensures.time still)

pub returns-clause-value : goal.returns-clause-value
returns-clause-value g c honest =
    let s = g.S.Site in
    let side = c.args.side in
    written_front (s.state c.args.site.now side) (s.state c.cut.new.self side) (s.state c.write_at.new.self side) c.args.front.now c.write_at.result
    (c.requires.there honest) (c.in_ok-cut.ensures.value honest) (c.write_at.ensures.value (c.cut.ensures.honest.0 honest))
