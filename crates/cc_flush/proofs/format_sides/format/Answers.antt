use Rattle.std.proofs.Common.{length, inl, inr, sym, subst, ap, Result, Err}
use Rattle.cc_flush.specs.declared.format_sides.FormatFault.{FormatFault}
use Rattle.cc_node.specs.Openings.{told, fresh, IsOpening}
use Rattle.cc_checkpoint.specs.Images.{SpellsImage}
use Rattle.cc_flush.specs.FormatSides.{FormatFails}
use Rattle.cc_flush.proofs.FormatMoments.{image_whole, none_yet}
use Rattle.cc_flush.proofs.format_sides.format.Goals as goal

abbrev the_err : FormatFault → Result (Unit {0}) FormatFault
the_err fault = Err fault

pub returns-in-Ok-format_sides-clause-at_rest : goal.returns-in-Ok-format_sides-clause-at_rest
returns-in-Ok-format_sides-clause-at_rest g c honest =
    let node = fresh (told c.args.opening.now) in
    let image = subst (λ l. SpellsImage l 1 node) (sym c.deref.ensures.value) c.in-Ok.ensures.image in
    (length c.deref.result.now, c.in-Ok-format_sides.ensures.at_rest honest node image)

pub returns-clause-faults : goal.returns-clause-faults
returns-clause-faults g c =
    let s = g.S.Site in
    let opening = IsOpening (told c.args.opening.now) in
    elim (c.in-Err-format_sides.ensures.only) [
      | inl is ↦ subst (λ f. FormatFails s opening c.args.site c.format_sides.new.site f) (sym is)
          (c.in-Ok.ensures.good, λ honest. c.in-Err-format_sides.ensures.already honest (ap the_err is))
      | inr device ↦ subst (λ f. FormatFails s opening c.args.site c.format_sides.new.site f) (sym device.1)
          (c.in-Ok.ensures.good, λ honest. c.in-Err-format_sides.ensures.stops honest device.0 (ap the_err device.1))
    ]

pub returns-in-Err-clause-every_moment : goal.returns-in-Err-clause-every_moment
returns-in-Err-clause-every_moment g c honest shut =
    none_yet g.S.Site (fresh (told c.args.opening.now)) c.args.site (g.met.S.Site.only_now c.args.site honest) shut

pub returns-in-Ok-format_sides-clause-every_moment : goal.returns-in-Ok-format_sides-clause-every_moment
returns-in-Ok-format_sides-clause-every_moment g c honest shut =
    let node = fresh (told c.args.opening.now) in
    image_whole g.S.Site c.deref.result.now node (g.S.Site.sent c.args.site) c.args.site c.format_sides.new.site
    (subst (λ l. SpellsImage l 1 node) (sym c.deref.ensures.value) c.in-Ok.ensures.image) (c.format_sides.ensures.every_moment honest shut)

pub returns-clause-every_moment : goal.returns-clause-every_moment
returns-clause-every_moment g c honest shut =
    let node = fresh (told c.args.opening.now) in
    image_whole g.S.Site c.deref.result.now node (g.S.Site.sent c.args.site) c.args.site c.format_sides.new.site
    (subst (λ l. SpellsImage l 1 node) (sym c.deref.ensures.value) c.in-Ok.ensures.image) (c.format_sides.ensures.every_moment honest shut)
