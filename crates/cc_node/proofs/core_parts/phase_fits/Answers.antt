use Rattle.cc_node.proofs.Phases.{stores_back}
use Rattle.cc_node.proofs.core_parts.phase_fits.Goals as goal

pub returns-then-is_last_read : goal.returns-then-is_last_read
returns-then-is_last_read c =
    stores_back c.args.links.now c.args.sessions.now c.in-StoringBack.pending c.knows_seen.result
    (c.is_last_read-in-StoringBack.ensures.0 c.if-is_last_read.true) c.args.ops.now.phase c.in-StoringBack.ensures.stage c.knows_seen.ensures
