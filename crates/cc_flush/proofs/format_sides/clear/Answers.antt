use Rattle.std.proofs.Common.{ℕ, List, take, ◌∙◌, ap}
use Rattle.std.proofs.lemmas.Result.{on_ok_weaker}
use Rattle.cc_site.specs.declared.site.Side.{Side}
use Rattle.cc_site.specs.Sides.{SideState, durable}
use Rattle.cc_flush.proofs.FormatMoments.{never, read_shut, cleared_run}
use Rattle.cc_flush.proofs.format_sides.clear.Goals as goal

pub returns-in_err-shut-clause-every_moment : goal.returns-in_err-shut-clause-every_moment
returns-in_err-shut-clause-every_moment g c honest shut =
    read_shut g.S.Site c.args.site.now c.begins_with.new.site c.begins_with.ensures.reads honest (g.met.S.Site.only_now c.args.site.now honest) shut

pub returns-then-shut-clause-value : goal.returns-then-shut-clause-value
returns-then-shut-clause-value g c honest =
    let s = g.S.Site in
    let reads = c.begins_with.ensures.reads in
    let begins = (c.in_ok-shut.ensures.exact honest).0 c.if-shut.true in
    on_ok_weaker c.cut_durably.result
    (λ value. value ∙ ap (λ (t : Side → SideState). durable (take 1 (t c.args.side).bytes)) (reads.keeps_state honest) ∙ ap (λ (l : List ℕ). durable l) begins)
    (c.cut_durably.ensures.value (reads.keeps_honesty.0 honest))

pub returns-then-shut-clause-every_moment : goal.returns-then-shut-clause-every_moment
returns-then-shut-clause-every_moment g c honest shut =
    let old = c.args.site.now in
    let reads = c.begins_with.ensures.reads in
    cleared_run g.S.Site old c.begins_with.new.site c.cut_durably.new.site c.args.side reads honest (g.met.S.Site.only_now old honest) shut
    ((c.in_ok-shut.ensures.exact honest).0 c.if-shut.true) (c.cut_durably.ensures.every_moment (reads.keeps_honesty.0 honest))

pub returns-in_err-cut_durably-clause-every_moment : goal.returns-in_err-cut_durably-clause-every_moment
returns-in_err-cut_durably-clause-every_moment g c honest shut =
    let old = c.args.site.now in
    let begins = shut c.args.side (g.S.Site.state old c.args.side).bytes (g.met.S.Site.may_read old honest c.args.side) in
    absurd (never c.in_ok-shut.shut c.if-shut.false ((c.in_ok-shut.ensures.exact honest).1 begins))

pub returns-clause-every_moment : goal.returns-clause-every_moment
returns-clause-every_moment g c honest shut =
    let old = c.args.site.now in
    let begins = shut c.args.side (g.S.Site.state old c.args.side).bytes (g.met.S.Site.may_read old honest c.args.side) in
    absurd (never c.in_ok-shut.shut c.if-shut.false ((c.in_ok-shut.ensures.exact honest).1 begins))
