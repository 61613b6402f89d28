use Rattle.std.proofs.Common.{◌≡◌, ◌+◌, length, refl, ap, arith}
use Rattle.std.proofs.lemmas.Result.{err_from_is_err_and}
use Rattle.cc_node_state.specs.Layouts.{version_of}
use Rattle.cc_node_state.specs.States.{layout_of_node, node_spelling}
use Rattle.cc_flush.specs.Engine.{IsSettled}
use Rattle.cc_checkpoint.specs.Checkpoints.{image_of}
use Rattle.cc_checkpoint.proofs.Imaged.{length-image}
use Rattle.cc_flush.proofs.CheckpointRuns.{put_stays, retired_stays, put_stops, retired_stops}
use Rattle.cc_flush.proofs.checkpoint.move_over.Goals as goal

pub overflow_add-state_length : goal.overflow_add-state_length
overflow_add-state_length g c = omega (arith, c.state_length.ensures.short)

pub returns-clause-moved : goal.returns-clause-moved
returns-clause-moved g c =
    let node = c.args.node.now in
    let size = length-image (version_of (layout_of_node node)) c.args.generation (node_spelling node) in
    let place : 14 + c.state_length.result ≡ length (image_of c.args.generation node) = omega (arith, c.state_length.ensures.len, size) in
    rw (c.move_to.ensures, c.other-side.ensures, c.side-old.ensures, place) refl

pub returns-clause-short : goal.returns-clause-short
returns-clause-short g c = omega (arith, c.state_length.ensures.short, ap (λ p. p.place) c.move_to.ensures)

pub returns-in_err-put_on_side-clause-good : goal.returns-in_err-put_on_side-clause-good
returns-in_err-put_on_side-clause-good g c h settled lower below =
    let at = c.args.journal.now in
    let on : IsSettled (g.S.Site.state c.args.site.now c.other-side.result) = rw (c.other-side.ensures, c.side-old.ensures) settled in
    put_stays g.S.Site g.met.S.Site.may_read c.args.site.now h c.args.node.now lower at c.side-old.result c.other-side.result
    c.side-old.ensures c.other-side.ensures c.put_on_side.new.site (c.put_on_side.ensures.good h on at.place lower below)

pub returns-in_err-retire-clause-good : goal.returns-in_err-retire-clause-good
returns-in_err-retire-clause-good g c h settled lower below =
    let at = c.args.journal.now in
    let first = c.put_on_side.new.site in
    let h1 = c.put_on_side.ensures.honest.0 h in
    let on : IsSettled (g.S.Site.state c.args.site.now c.other-side.result) = rw (c.other-side.ensures, c.side-old.ensures) settled in
    retired_stays g.S.Site g.met.S.Site.may_read c.args.site.now h c.args.node.now lower at c.side-old.result c.other-side.result
    c.side-old.ensures c.other-side.ensures c.args.generation first c.retire.new.site (g.met.S.Site.counts_now c.retire.new.site (c.retire.ensures.honest.0 h1))
    (c.put_on_side.ensures.good h on at.place lower below) (c.in_ok-put_on_side.ensures.rests h on at.place lower below)
    (c.put_on_side.ensures.other_side h) (c.retire.ensures.every_moment h1)

pub returns-clause-good : goal.returns-clause-good
returns-clause-good g c h settled lower below =
    let at = c.args.journal.now in
    let first = c.put_on_side.new.site in
    let h1 = c.put_on_side.ensures.honest.0 h in
    let on : IsSettled (g.S.Site.state c.args.site.now c.other-side.result) = rw (c.other-side.ensures, c.side-old.ensures) settled in
    retired_stays g.S.Site g.met.S.Site.may_read c.args.site.now h c.args.node.now lower at c.side-old.result c.other-side.result
    c.side-old.ensures c.other-side.ensures c.args.generation first c.retire.new.site (g.met.S.Site.counts_now c.retire.new.site (c.retire.ensures.honest.0 h1))
    (c.put_on_side.ensures.good h on at.place lower below) (c.in_ok-put_on_side.ensures.rests h on at.place lower below)
    (c.put_on_side.ensures.other_side h) (c.retire.ensures.every_moment h1)

pub returns-in_err-put_on_side-clause-failed : goal.returns-in_err-put_on_side-clause-failed
returns-in_err-put_on_side-clause-failed g c h =
    let e = c.in_err-put_on_side.ensures in
    let p = err_from_is_err_and c.from_residual.result c.from_residual.ensures.1 in
    rw (p.1, p.2) (put_stops c.args.journal.now.side c.side-old.result c.other-side.result c.side-old.ensures c.other-side.ensures
    c.args.generation c.args.node.now (g.S.Site.state c.args.site.now) (g.S.Site.state c.put_on_side.new.site) (c.put_on_side.ensures.other_side h)
    c.in_err-put_on_side.field-0.0 e.fault.0 (e.failed h))

pub returns-in_err-retire-clause-failed : goal.returns-in_err-retire-clause-failed
returns-in_err-retire-clause-failed g c h =
    let s = g.S.Site in
    let e = c.in_err-retire.ensures in
    let h1 = c.put_on_side.ensures.honest.0 h in
    let p = err_from_is_err_and c.from_residual-in_err-retire.result c.from_residual-in_err-retire.ensures.1 in
    rw (p.1, p.2) (retired_stops c.args.journal.now.side c.side-old.result c.other-side.result c.side-old.ensures c.other-side.ensures
    c.args.generation c.args.node.now (s.state c.args.site.now) (s.state c.put_on_side.new.site) (c.put_on_side.ensures.other_side h)
    (c.in_ok-put_on_side.ensures.holds h) (s.state c.retire.new.site) c.in_err-retire.field-0.0 e.fault.0.0 (c.retire.ensures.other_side h1) (e.failed h1))
