use Rattle.std.proofs.Common.{◌≡◌, ◌<◌, ◌++◌, [], get_or, length, ap, arith}
use Rattle.std.proofs.lemmas.List.{length-append}
use Rattle.cc_node_state.specs.Parts.{parts_of}
use Rattle.cc_node_state.proofs.PartLaws.{one_part_more}
use Rattle.cc_checkpoint.proofs.piece.put_parts.Goals as goal

pub loop-at-preserved : goal.loop-at-preserved
loop-at-preserved c =
    let parts = parts_of c.args.node.now in
    let old = c.loop-at.out.items in
    let new = c.put_part.new.out.items in
    let part = get_or parts c.loop-at.at [] in
    let within : c.loop-at.at < length parts = omega (arith, c.loop-at-test.true, c.part_count-count.ensures.count) in
    let put : new ≡ old ++ part = rw c.unwrap.ensures at c.put_part.ensures.ok in
    record {
      from = omega (arith, c.loop-at.invariant.from);
      within = omega (arith, within);
      parts = one_part_more parts c.args.from c.loop-at.at old new within put c.loop-at.invariant.parts;
      fits = omega (arith, ap length put, length-append old part, c.part_len.ensures.len, c.len.ensures, c.if-len-part_len-le-MAX_LEN.true);
      some = λ _. omega (arith, ap length put, length-append old part, c.part_len.ensures.len, c.part_len.ensures.some);
      none = λ is. absurd (omega (arith, is, c.loop-at.invariant.from));
      room = omega (arith, c.loop-at.invariant.room, c.put_part.ensures.grows);
    }
