use Rattle.cc_node.proofs.Phases.{beside_writes, beside_query, beside_seen}
use Rattle.cc_node.proofs.core_parts.are_beside.Goals as goal

pub returns-in-Storing : goal.returns-in-Storing
returns-in-Storing c = rw c.all_write.ensures (beside_writes c.args.others.now c.in-Storing.field-0 c.args.ops.now.phase c.in-Storing.ensures.stage)

pub returns-in-Querying : goal.returns-in-Querying
returns-in-Querying c = rw c.all_read.ensures (beside_query c.args.others.now c.in-Querying.field-0 c.args.ops.now.phase c.in-Querying.ensures.stage)

pub returns-in-StoringBack : goal.returns-in-StoringBack
returns-in-StoringBack c =
    rw c.all_read-in-StoringBack.ensures (beside_seen c.args.others.now c.in-StoringBack.field-0 c.args.ops.now.phase c.in-StoringBack.ensures.stage)
