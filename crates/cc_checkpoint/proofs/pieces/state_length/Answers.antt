use Rattle.std.proofs.Common.{◌<◌, [], get_or, take, ap, arith, length}
use Rattle.std.proofs.lemmas.List.{length-append, take_all}
use Rattle.cc_node_state.specs.Parts.{parts_of, joined}
use Rattle.cc_node_state.proofs.PartLaws.{parts_spell, joined_more}
use Rattle.cc_checkpoint.proofs.pieces.state_length.Goals as goal

pub loop-at-preserved : goal.loop-at-preserved
loop-at-preserved c =
    let parts = parts_of c.args.node.now in
    let within : c.loop-at.at < length parts = omega (arith, c.loop-at-test.true, c.part_count-at-end.ensures.count) in
    record {
      counted = omega (
        arith,
        ap length (joined_more parts c.loop-at.at within),
        length-append (joined (take c.loop-at.at parts)) (get_or parts c.loop-at.at []),
        c.loop-at.invariant.counted,
        c.part_len.ensures.len,
      );
      fits = omega (arith, c.loop-at.invariant.fits, c.part_len.ensures.fits);
    }

pub returns-clause-len : goal.returns-clause-len
returns-clause-len c =
    let parts = parts_of c.args.node.now in
    omega (
      arith,
      c.loop-at.invariant.counted,
      ap (λ l. length (joined l)) (take_all c.loop-at.at parts (omega (arith, c.loop-at-test.false, c.part_count-at-end.ensures.count))),
      ap length (parts_spell c.args.node.now),
    )
