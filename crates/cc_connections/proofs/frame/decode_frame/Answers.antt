use Rattle.std.proofs.Common.{arith}
use Rattle.cc_connections.proofs.FrameFormat.{frame_spelled}
use Rattle.cc_wire.proofs.Whole.{whole_found, given_only}
use Rattle.cc_connections.proofs.frame.decode_frame.Goals as goal

pub returns-clause-found : goal.returns-clause-found
returns-clause-found c = whole_found frame_spelled c.args.bytes.now c.decode_all.result (λ i. omega (arith, c.type_inv.bytes i)) c.decode_all.ensures

pub returns-clause-only : goal.returns-clause-only
returns-clause-only c = given_only frame_spelled c.args.bytes.now c.decode_all.result c.decode_all.ensures
