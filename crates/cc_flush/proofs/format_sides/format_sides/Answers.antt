use Rattle.cc_flush.proofs.FormatMoments.{formatted_rests, read_has_none, read_and_laid}
use Rattle.cc_flush.proofs.format_sides.format_sides.Goals as goal

pub returns-clause-at_rest : goal.returns-clause-at_rest
returns-clause-at_rest g c honest node spells =
    let new = c.lay_out.new.site in
    let h = (c.in_ok-is_formatted.ensures.reads).keeps_honesty.0 honest in
    formatted_rests (g.S.Site.state new) (g.S.Site.sent new) c.args.image.now node spells (c.in_ok-lay_out.ensures.first h) (c.in_ok-lay_out.ensures.second h)

pub returns-in_err-is_formatted-clause-every_moment : goal.returns-in_err-is_formatted-clause-every_moment
returns-in_err-is_formatted-clause-every_moment g c honest shut =
    let old = c.args.site.now in
    read_has_none g.S.Site c.args.image.now old c.is_formatted.new.site c.is_formatted.ensures.reads honest (g.met.S.Site.only_now old honest) shut

pub returns-then-branch-clause-every_moment : goal.returns-then-branch-clause-every_moment
returns-then-branch-clause-every_moment g c honest shut =
    let old = c.args.site.now in
    read_has_none g.S.Site c.args.image.now old c.is_formatted.new.site c.is_formatted.ensures.reads honest (g.met.S.Site.only_now old honest) shut

pub returns-in_err-lay_out-clause-every_moment : goal.returns-in_err-lay_out-clause-every_moment
returns-in_err-lay_out-clause-every_moment g c honest shut =
    let s = g.S.Site in
    let old = c.args.site.now in
    let reads = c.is_formatted.ensures.reads in
    read_and_laid s c.args.image.now old c.is_formatted.new.site c.lay_out.new.site reads honest (g.met.S.Site.only_now old honest) shut
    (c.lay_out.ensures.every_moment (reads.keeps_honesty.0 honest))

pub returns-clause-every_moment : goal.returns-clause-every_moment
returns-clause-every_moment g c honest shut =
    let s = g.S.Site in
    let old = c.args.site.now in
    let reads = c.is_formatted.ensures.reads in
    read_and_laid s c.args.image.now old c.is_formatted.new.site c.lay_out.new.site reads honest (g.met.S.Site.only_now old honest) shut
    (c.lay_out.ensures.every_moment (reads.keeps_honesty.0 honest))
