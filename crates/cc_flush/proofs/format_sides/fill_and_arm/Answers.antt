use Rattle.std.proofs.Common.{◌∙◌, ap}
use Rattle.cc_site.specs.Sides.{written, settled}
use Rattle.cc_site.specs.Runs.{joined}
use Rattle.cc_flush.specs.FormatSides.{Arms}
use Rattle.cc_flush.proofs.FormatMoments.{filled, fill_run, gate_run}
use Rattle.cc_flush.proofs.format_sides.fill_and_arm.Goals as goal

pub returns-in_err-write_durably-clause-every_moment : goal.returns-in_err-write_durably-clause-every_moment
returns-in_err-write_durably-clause-every_moment g c honest =
    fill_run g.S.Site c.args.site.now c.write_durably.new.site c.args.side c.args.image.now (c.requires honest) (c.write_durably.ensures.every_moment honest)

pub returns-clause-every_moment : goal.returns-clause-every_moment
returns-clause-every_moment g c honest =
    let s = g.S.Site in
    let old = c.args.site.now in
    let mid = c.write_durably.new.site in
    let new = c.write_durably-2.new.site in
    let side = c.args.side in
    let image = c.args.image.now in
    let value = c.in_ok-write_durably.ensures.value honest ∙ ap (λ t. settled (written t 1 image)) (c.requires honest) ∙ filled image in
    joined s old mid new (Arms side image (s.state old) (s.sent old))
    (fill_run s old mid side image (c.requires honest) (c.write_durably.ensures.every_moment honest))
    (gate_run s old mid new side image value (c.write_durably.ensures.other_side honest) (c.write_durably.ensures.tells.1)
    (c.write_durably-2.ensures.every_moment (c.write_durably.ensures.honest.0 honest)))
