use Rattle.std.proofs.Common.{◌∙◌, arith}
use Rattle.cc_node_state.specs.States.{node_spelling}
use Rattle.cc_node_state.proofs.TableWrites.{on_ok}
use Rattle.cc_checkpoint.proofs.BehindRuns.{then_behind, image_behind}
use Rattle.cc_checkpoint.proofs.Imaged.{image_laid}
use Rattle.cc_checkpoint.proofs.PastGate.{image_stops}
use Rattle.cc_checkpoint.proofs.checkpoint.write_image.Goals as goal

pub overflow_cast-state_length : goal.overflow_cast-state_length
overflow_cast-state_length g c = omega (arith, c.state_length.ensures.short)

pub returns-in_err-end-clause-every_moment : goal.returns-in_err-end-clause-every_moment
returns-in_err-end-clause-every_moment g c honest =
    let first = c.begin_image.new.site in
    let still = c.begin_image.ensures.honest.0 honest in
    then_behind g.S.Site c.args.side c.args.site.now first c.write_pieces.new.site
    (c.begin_image.ensures.every_moment honest) (g.met.S.Site.counts_now first still) (c.write_pieces.ensures.every_moment still)

pub returns-clause-every_moment : goal.returns-clause-every_moment
returns-clause-every_moment g c honest =
    let first = c.begin_image.new.site in
    let second = c.write_pieces.new.site in
    let still = c.begin_image.ensures.honest.0 honest in
    let ever = c.write_pieces.ensures.honest.0 still in
    image_behind g.S.Site c.args.side c.args.site.now first second c.write_durably.new.site c.in_ok-end.end
    (c.begin_image.ensures.every_moment honest) (g.met.S.Site.counts_now first still)
    (c.write_pieces.ensures.every_moment still) (g.met.S.Site.counts_now second ever)
    (omega (arith, c.in_ok-end.ensures.end)) (c.in_ok-end.ensures.at_end still) (c.write_durably.ensures.every_moment ever)

pub returns-clause-value : goal.returns-clause-value
returns-clause-value g c honest =
    let s = g.S.Site in
    let side = c.args.side in
    let still = c.begin_image.ensures.honest.0 honest in
    let written = c.in_ok-end.ensures in
    on_ok c.write_durably.result
    (image_laid (s.state c.args.site.now side) (s.state c.begin_image.new.site side) (s.state c.write_pieces.new.site side)
    (s.state c.write_durably.new.site side) c.as_slice.result.now c.version_for.result c.args.generation c.state_length.result c.in_ok-end.end c.args.node.now
    c.state_length.ensures.len c.version_for.ensures (c.as_slice.ensures ∙ c.begin.ensures)
    (c.in_ok-begin_image.ensures.value honest) (written.value still) (written.at_end still))
    (c.write_durably.ensures.value (c.write_pieces.ensures.honest.0 still))

pub returns-clause-failed : goal.returns-clause-failed
returns-clause-failed g c honest =
    let s = g.S.Site in
    let side = c.args.side in
    let second = c.write_pieces.new.site in
    let new = c.write_durably.new.site in
    let still = c.begin_image.ensures.honest.0 honest in
    let written = c.in_ok-end.ensures in
    image_stops (s.state c.args.site.now side) (s.state c.begin_image.new.site side) (s.state second side) (s.state new side)
    c.as_slice.result.now (node_spelling c.args.node.now) c.in_ok-end.end (s.failures second) (s.failures new) side c.write_durably.result
    (c.requires.there honest) (omega (arith, written.end)) (written.at_end still)
    (c.in_ok-begin_image.ensures.value honest) (written.value still)
    (c.write_durably.ensures.failed (c.write_pieces.ensures.honest.0 still)) c.write_durably.ensures.fault
