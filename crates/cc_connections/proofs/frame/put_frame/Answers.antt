use Rattle.std.proofs.Common.{arith, ap, length}
use Rattle.std.specs.Int.{w32, to_be_bytes}
use Rattle.std.proofs.lemmas.List.{length-append}
use Rattle.cc_connections.specs.Frames.{body_spelling}
use Rattle.cc_connections.proofs.BodyLengths.{length-body}
use Rattle.cc_connections.proofs.frame.put_frame.Goals as goal

pub close_body-requires-clause-fits : goal.close_body-requires-clause-fits
close_body-requires-clause-fits c =
    omega (
      arith,
      ap length c.in_ok-put_body.ensures.writes.ok,
      length-append c.put_u32.new.out.items (body_spelling c.args.frame.now),
      ap length c.in_ok-put_u32.ensures.ok,
      length-append c.args.out.now.items (to_be_bytes w32 0),
      length-body c.args.frame.now c.in_ok-put_body.ensures.fits,
      c.len-start.ensures,
      c.put_body.new.out.ok,
      c.args.out.now.ok,
      c.put_u32.new.out.ok,
    )
