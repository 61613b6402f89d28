use Rattle.std.proofs.Common.{arith}
use Rattle.cc_wire.proofs.Formats.{all_of_bytes}
use Rattle.cc_policies.proofs.ReceivedFrameLaws.{fed_begins, fed_step}
use Rattle.cc_policies.proofs.received_frames.feed.Goals as goal

pub returns-clause-begins : goal.returns-clause-begins
returns-clause-begins c = rw c.feed.ensures.held (fed_begins c.args.frames.now c.args.piece.now c.feed.result c.requires
    (all_of_bytes c.args.piece.now (λ i. omega (arith, c.type_inv.piece i))) c.feed.ensures.exact)

pub returns-clause-gives : goal.returns-clause-gives
returns-clause-gives c rest = rw c.feed.ensures.held (fed_step c.args.frames.now c.args.piece.now c.feed.result rest c.requires
    (all_of_bytes c.args.piece.now (λ i. omega (arith, c.type_inv.piece i))) c.feed.ensures.exact)
