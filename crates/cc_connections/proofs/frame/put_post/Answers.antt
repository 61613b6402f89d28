use Rattle.std.proofs.Common.{arith, ap, length, rules}
use Rattle.std.specs.Int.{w32, to_be_bytes}
use Rattle.std.proofs.lemmas.List.{length-append}
use Rattle.cc_connections.specs.declared.frame.Frame.TheVariants as frames
use Rattle.cc_connections.specs.Frames.{body_spelling}
use Rattle.cc_connections.proofs.BodyLengths.{length-body}
use Rattle.cc_connections.proofs.FramedBodies.{framed}
use Rattle.cc_connections.proofs.frame.put_post.Goals as goal

pub close_body-requires-clause-fits : goal.close_body-requires-clause-fits
close_body-requires-clause-fits c =
    omega (
      arith,
      ap length c.in_ok-put_post_body.ensures.writes.ok,
      length-append c.put_u32.new.out.items (body_spelling (frames.Post c.args.from c.args.number c.args.message.now)),
      ap length c.in_ok-put_u32.ensures.ok,
      length-append c.args.out.now.items (to_be_bytes w32 0),
      length-body (frames.Post c.args.from c.args.number c.args.message.now) c.in_ok-put_post_body.ensures.fits,
      c.len-start.ensures,
      c.put_post_body.new.out.ok,
      c.args.out.now.ok,
      c.put_u32.new.out.ok,
    )

pub returns-clause-writes : goal.returns-clause-writes
returns-clause-writes c = record {
  ok = framed (frames.Post c.args.from c.args.number c.args.message.now) c.args.out.now.items c.put_u32.new.out.items c.put_post_body.new.out.items
      c.close_body.new.out.items c.len-start.result (omega (arith, c.len-start.ensures, c.args.out.now.ok)) c.in_ok-put_u32.ensures.ok
      c.in_ok-put_post_body.ensures.writes.ok c.close_body.ensures.closed;
  err = tt;
  room = search rules;
  grows = omega (arith, c.in_ok-put_u32.ensures.grows, c.in_ok-put_post_body.ensures.writes.grows, c.close_body.ensures.room);
}
