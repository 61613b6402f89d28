use Rattle.std.proofs.Common.{arith}
use Rattle.cc_policies.proofs.ReceivedFrameLaws.{start_begins, ahead_start}
use Rattle.cc_policies.proofs.received_frames.ReceivedFrames.new.Goals as goal

pub invariant_of-result : goal.invariant_of-result
invariant_of-result g c = rw c.in_ok-frames.ensures (
  start_begins,
  record
      { ordered = omega arith; within = omega arith; some = omega (arith, c.in_ok-piece.ensures.len) },
)

pub returns : goal.returns
returns g c = rw c.in_ok-frames.ensures (ahead_start (g.I.Input.remaining c.args.reader))
