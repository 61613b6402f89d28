use Rattle.std.proofs.Common.{arith}
use Rattle.cc_policies.proofs.ReceivedFrameLaws.{held_fits}
use Rattle.cc_policies.proofs.received_frames.read_whole.Goals as goal

pub unreachable-requires : goal.unreachable-requires
unreachable-requires g c = omega (arith, c.loop-test.false, c.loop.invariant.2, held_fits c.loop.frames c.loop.invariant.0)
