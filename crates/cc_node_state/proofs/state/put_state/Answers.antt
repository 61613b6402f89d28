use Rattle.std.proofs.Common.{◌<◌, [], List, ℕ, length, subst, ap, ◌∙◌, Ok, Err, arith}
use Rattle.std.proofs.lemmas.List.{get_or_default, take_all}
use Rattle.std.proofs.lemmas.Result.{err_from_is_err_and}
use Rattle.cc_wire.specs.Writers.{Writes}
use Rattle.cc_wire.proofs.Writes.{each_stops, each_more}
use Rattle.cc_node_state.specs.Parts.{parts_of, joined}
use Rattle.cc_node_state.proofs.PartLaws.{parts_spell}
use Rattle.cc_node_state.proofs.state.put_state.Goals as goal

pub returns-in_err-put_part : goal.returns-in_err-put_part
returns-in_err-put_part c =
    let parts = parts_of c.args.node.now in
    let within : c.loop-at.at < length parts = omega (arith, c.loop-at-test.true, c.part_count-at-end.ensures.count) in
    let p = err_from_is_err_and c.from_residual.result c.from_residual.ensures.1 in
    rw p.1 (subst (λ (t : List ℕ). Writes c.args.out.now c.put_part.new.out t (Err p.0)) (parts_spell c.args.node.now)
    (each_stops (λ part. part) _ _ _ parts _ _ _ _ within (get_or_default parts c.loop-at.at [] _ within) c.loop-at.invariant c.in_err-put_part.ensures))

pub loop-at-preserved : goal.loop-at-preserved
loop-at-preserved c =
    let parts = parts_of c.args.node.now in
    let within : c.loop-at.at < length parts = omega (arith, c.loop-at-test.true, c.part_count-at-end.ensures.count) in
    each_more (λ part. part) _ _ _ parts _ _ within (get_or_default parts c.loop-at.at [] _ within) c.loop-at.invariant c.in_ok-put_part.ensures

pub returns : goal.returns
returns c =
    let parts = parts_of c.args.node.now in
    subst (λ (t : List ℕ). Writes c.args.out.now c.loop-at.out t (Ok tt))
    (ap joined (take_all c.loop-at.at parts (omega (arith, c.loop-at-test.false, c.part_count-at-end.ensures.count))) ∙ parts_spell c.args.node.now)
    c.loop-at.invariant
